-- The sheet of REQUIREMENTS 11.4, one with discounted prices, one of no quotes and two that are refused, with their text to the byte; answers as they are
-- tallied; records of prices with their lines. Assumes nothing.
use Rattle.std.specs.Prelude.{◌≡◌, refl, ℕ, List, [], ◌∷◌, ◌++◌}
use Rattle.std.specs.Float.Ieee.{add, sub, mul, div, lt, le, eq, is_nan, of_bits, to_bits}
use Rattle.arithmetic.specs.Sqrt.{sqrt}
use Rattle.arithmetic.specs.Operations.{bits, infinity}
use Rattle.explicit_black.specs.Quote.{answer, volatility_over, first_refusal, from_time_value, from_price}
use Rattle.explicit_black.specs.Discount.{discounted_refusal, from_discounted_quote, implied_black_volatility_discounted}
use Rattle.explicit_black.specs.Price.{price_refusal, price_of, black_price}
use Rattle.xdr_sheet.specs.Tally.{tally_of, empty_tally, tally_with}
use Rattle.xdr_sheet.specs.Text.{ascii, price_line, closing}
use Rattle.xdr_sheet.specs.Sheet.{text}
use Rattle.xdr_sheet.specs.PriceRecord.{price_reply}

-- doubles
abbrev plus_zero : List ℕ
plus_zero = 0x00 ∷ 0x00 ∷ 0x00 ∷ 0x00 ∷ 0x00 ∷ 0x00 ∷ 0x00 ∷ 0x00 ∷ []

abbrev one : List ℕ
one = 0x3F ∷ 0xF0 ∷ 0x00 ∷ 0x00 ∷ 0x00 ∷ 0x00 ∷ 0x00 ∷ 0x00 ∷ []

abbrev minus_one : List ℕ
minus_one = 0xBF ∷ 0xF0 ∷ 0x00 ∷ 0x00 ∷ 0x00 ∷ 0x00 ∷ 0x00 ∷ 0x00 ∷ []

abbrev fifth : List ℕ
fifth = 0x3F ∷ 0xC9 ∷ 0x99 ∷ 0x99 ∷ 0x99 ∷ 0x99 ∷ 0x99 ∷ 0x9A ∷ []

abbrev five : List ℕ
five = 0x40 ∷ 0x14 ∷ 0x00 ∷ 0x00 ∷ 0x00 ∷ 0x00 ∷ 0x00 ∷ 0x00 ∷ []

abbrev half : List ℕ
half = 0x3F ∷ 0xE0 ∷ 0x00 ∷ 0x00 ∷ 0x00 ∷ 0x00 ∷ 0x00 ∷ 0x00 ∷ []

abbrev fifty : List ℕ
fifty = 0x40 ∷ 0x49 ∷ 0x00 ∷ 0x00 ∷ 0x00 ∷ 0x00 ∷ 0x00 ∷ 0x00 ∷ []

abbrev hundred : List ℕ
hundred = 0x40 ∷ 0x59 ∷ 0x00 ∷ 0x00 ∷ 0x00 ∷ 0x00 ∷ 0x00 ∷ 0x00 ∷ []

abbrev hundred_twenty : List ℕ
hundred_twenty = 0x40 ∷ 0x5E ∷ 0x00 ∷ 0x00 ∷ 0x00 ∷ 0x00 ∷ 0x00 ∷ 0x00 ∷ []

-- a number below 256 in a word
abbrev word : ℕ → List ℕ
word n = 0x00 ∷ 0x00 ∷ 0x00 ∷ n ∷ []

-- three quotes: side, price, forward, strike, time, factor
abbrev pub sample : List ℕ
sample =
    word 3
    ++ word 0 ++ plus_zero ++ hundred ++ hundred_twenty ++ one ++ one
    ++ word 0 ++ hundred ++ hundred ++ hundred_twenty ++ one ++ one
    ++ word 1 ++ five ++ hundred ++ hundred_twenty ++ one ++ one

pub text_of_sample : text sample
    ≡ ascii "1 V 0000000000000000 0000000000000000 0\n2 V 7ff0000000000000 7ff0000000000000 0\n3 R 7 0\nT 1 1 1\n"
unfolding text implied_black_volatility_discounted from_discounted_quote discounted_refusal from_price from_time_value volatility_over
    sqrt add sub mul div lt le eq is_nan of_bits to_bits
text_of_sample = refl

-- discounted: 50 / 0.5 is the bound of the first; the factor of the second is 0
abbrev pub discounted : List ℕ
discounted =
    word 2
    ++ word 0 ++ fifty ++ hundred ++ hundred_twenty ++ one ++ half
    ++ word 0 ++ five ++ hundred ++ hundred_twenty ++ one ++ plus_zero

pub text_of_discounted : text discounted ≡ ascii "1 V 7ff0000000000000 7ff0000000000000 0\n2 R 15 0\nT 0 1 1\n"
unfolding text implied_black_volatility_discounted from_discounted_quote discounted_refusal from_price from_time_value volatility_over
    sqrt add sub mul div lt le eq is_nan of_bits to_bits
text_of_discounted = refl

-- a sheet whose quotes have 36 bytes, without a factor, is refused
pub text_of_36_bytes : text (word 1 ++ word 0 ++ five ++ hundred ++ hundred_twenty ++ one) ≡ ascii "S 10\n"
unfolding text
text_of_36_bytes = refl

-- no quotes
pub text_of_no_quotes : text (word 0) ≡ ascii "T 0 0 0\n"
unfolding text
text_of_no_quotes = refl

-- three bytes are no sheet
pub text_of_no_sheet : text (0 ∷ 0 ∷ 0 ∷ []) ≡ ascii "S 10\n"
unfolding text
text_of_no_sheet = refl

-- the order in the last line
pub closing_in_order : closing (tally_of 3 2 1) ≡ ascii "T 3 2 1\n"
unfolding closing
closing_in_order = refl

-- an answer is tallied by its volatility: infinite beside a finite total, which no quote is known to get, and finite beside an infinite one
pub tallied_by_volatility : (tally_with empty_tally (answer (bits 0x3FF0_0000_0000_0000) infinity 0) ≡ tally_of 0 1 0)
    × (tally_with empty_tally (answer infinity (bits 0x3FF0_0000_0000_0000) 0) ≡ tally_of 1 0 0)
unfolding is_nan of_bits
tallied_by_volatility = (refl, refl)

-- ---- prices: side, volatility, forward, strike, time

-- at volatility 0 the price is the intrinsic value, 120 - 100
pub line_of_intrinsic : price_line 1 (price_reply (word 0 ++ plus_zero ++ hundred_twenty ++ hundred ++ one)) ≡ ascii "1 P 4034000000000000\n"
unfolding price_line price_reply black_price price_refusal first_refusal price_of sqrt add sub mul div lt le eq is_nan of_bits to_bits
line_of_intrinsic = refl

-- the time is -1
pub line_of_refusal : price_line 20 (price_reply (word 0 ++ fifth ++ hundred ++ hundred_twenty ++ minus_one)) ≡ ascii "20 R 4 0\n"
unfolding price_line price_reply black_price price_refusal first_refusal lt le eq is_nan of_bits
line_of_refusal = refl
