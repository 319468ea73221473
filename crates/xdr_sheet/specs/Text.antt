-- Numbers, the lines of a sheet's answers (REQUIREMENTS 11.3) and of prices (14.1) as ASCII text, and a text at the start of a buffer.
-- Definitions only.
use Rattle.std.specs.Prelude.{ℕ, zero, suc, ◌/◌, Bool, cond, List, [], ◌∷◌, ◌++◌, leb, ltb, length, drop}
use Prim.Native.Char.{code}
use Prim.Native.String.{String, [] as none, ◌∷◌ as ◌before◌}
use Rattle.std.specs.Float.{binary64}
use Rattle.std.specs.Float.Ieee.{to_bits}
use Rattle.io.specs.Digits.{last_digits}
use Rattle.explicit_black.specs.Quote.{Reply, answer, refusal}
use Rattle.explicit_black.specs.Price.{PriceReply, price, refusal as refusal_of_price}
use Rattle.xdr_sheet.specs.declared.tally.Tally.{Tally}

-- the bytes of a text in quotation marks
abbrev pub ascii : String → List ℕ
ascii none = []
ascii (c before s) = code c ∷ ascii s

-- the most digits of a u64 in decimal, those of a pattern, room for any line, and the most bytes of a line of a sheet
abbrev pub decimal_digits : ℕ
decimal_digits = 20

abbrev pub hexadecimal_digits : ℕ
hexadecimal_digits = 16

abbrev pub line_bytes : ℕ
line_bytes = 80

abbrev pub sheet_line_bytes : ℕ
sheet_line_bytes = 46

-- how many decimal digits n has, at most k + 1: one for 0
unfoldable pub places : ℕ → ℕ → ℕ
places zero n = 1
places (suc k) n = cond (ltb n 10) 1 (suc (places k (n / 10)))

-- n in decimal without leading zeros, for an n of at most 20 digits
unfoldable pub decimal : ℕ → List ℕ
unfolding places
decimal n = last_digits 10 (places 19 n) n

-- the 16 hexadecimal digits of a pattern, in lower case
unfoldable pub hexadecimal : ℕ → List ℕ
hexadecimal b = last_digits 16 hexadecimal_digits b

-- after the number of a quote: `V`, the patterns of total and volatility, and count
unfoldable pub answer_fields : ℕ → ℕ → ℕ → List ℕ
unfolding decimal hexadecimal
answer_fields total volatility count =
    ascii " V " ++ hexadecimal total ++ ascii " " ++ hexadecimal volatility ++ ascii " " ++ decimal count ++ ascii "\n"

-- or `R`, refusal and count
unfoldable pub refusal_fields : ℕ → ℕ → List ℕ
unfolding decimal
refusal_fields reason count = ascii " R " ++ decimal reason ++ ascii " " ++ decimal count ++ ascii "\n"

-- the line of a quote with its number, and its letter
unfoldable pub line : ℕ → Reply → List ℕ
unfolding decimal answer_fields refusal_fields to_bits
line number (answer total volatility count) = decimal number ++ answer_fields (to_bits binary64 total) (to_bits binary64 volatility) count
line number (refusal reason count) = decimal number ++ refusal_fields reason count

abbrev pub letter : Reply → ℕ
letter (answer total volatility count) = code "V"
letter (refusal reason count) = code "R"

-- after the number of a price's record: `P` and the pattern of the price
unfoldable pub price_fields : ℕ → List ℕ
unfolding hexadecimal
price_fields p = ascii " P " ++ hexadecimal p ++ ascii "\n"

-- the line of a price's record with its number; a refusal has the fields of a quote's
unfoldable pub price_line : ℕ → PriceReply → List ℕ
unfolding decimal price_fields refusal_fields to_bits
price_line number (price p) = decimal number ++ price_fields (to_bits binary64 p)
price_line number (refusal_of_price reason count) = decimal number ++ refusal_fields reason count

-- the last line: `T`, finite answers, infinite answers, refusals
unfoldable pub closing : Tally → List ℕ
unfolding decimal
closing t = ascii "T " ++ decimal t.finite ++ ascii " " ++ decimal t.infinite ++ ascii " " ++ decimal t.refusals ++ ascii "\n"

-- a refused sheet: `S` and the number
unfoldable pub refused_sheet : ℕ → List ℕ
unfolding decimal
refused_sheet number = ascii "S " ++ decimal number ++ ascii "\n"

-- ---- a text at the start of a buffer: whether it goes into so many bytes, and the buffer with it, its other bytes as before
abbrev pub fits_into : List ℕ → ℕ → Bool
fits_into text room = leb (length text) room

abbrev pub overlaid : List ℕ → List ℕ → List ℕ
overlaid text buffer = text ++ drop (length text) buffer
