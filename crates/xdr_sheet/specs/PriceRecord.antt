-- The record of a price: a quote's layout in a sheet up to its time, with the volatility in the price's place; the reply to it, and the numbers of
-- records, from 1 on (REQUIREMENTS 14.1). Definitions only.
use Rattle.std.specs.Prelude.{ℕ, suc, ◌+◌, ◌-◌, cond, List, ltb, Option, Some, None}
use Rattle.explicit_black.specs.Price.{PriceReply, black_price}
use Rattle.xdr_sheet.specs.Xdr.{unsigned, double}
use Rattle.xdr_sheet.specs.Sheet.{price_at, forward_at, strike_at, time_at}
use Rattle.xdr_sheet.specs.declared.price_record.RecordNumber.{RecordNumber}

-- the number of the next record, or none after the last number
abbrev pub Numbered : Type 0
Numbered = Option RecordNumber

-- the reply to the record at the start of the bytes; a figure whose bytes are not all there is read as 0
unfoldable pub price_reply : List ℕ → PriceReply
unfolding unsigned double
price_reply s = black_price (unsigned s 0) (double s price_at) (double s forward_at) (double s strike_at) (double s time_at)

abbrev pub first_number : Numbered
first_number = Some (record { number = 1 })

-- the largest number of 64 bits
abbrev pub last_number : ℕ
last_number = 0xFFFF_FFFF_FFFF_FFFF

-- one more, or none after the last
unfoldable pub number_after : RecordNumber → Numbered
number_after n = cond (ltb n.number last_number) (Some (record { number = n.number + 1 })) None

-- how many numbers are left, this one included
abbrev pub numbers_left : Numbered → ℕ
numbers_left (Some n) = suc (last_number - n.number)
numbers_left None = 0
