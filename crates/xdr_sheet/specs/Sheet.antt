-- A sheet: an unsigned count, then for each quote an unsigned side and the doubles price, forward, strike, time, factor; and the text of its
-- answers (REQUIREMENTS 11, 14.7). Definitions only.
use Rattle.std.specs.Prelude.{ℕ, zero, suc, ◌+◌, ◌*◌, cond, List, [], ◌++◌, ltb, eqb, length}
use Rattle.explicit_black.specs.Quote.{Reply, refusal}
use Rattle.explicit_black.specs.Discount.{implied_black_volatility_discounted}
use Rattle.xdr_sheet.specs.Xdr.{unsigned, double}
use Rattle.xdr_sheet.specs.Tally.{empty_tally, tally_with}
use Rattle.xdr_sheet.specs.Text.{line, closing, refused_sheet}
use Rattle.xdr_sheet.specs.declared.tally.Tally.{Tally}

-- ---- the format
abbrev pub count_bytes : ℕ
count_bytes = 4

abbrev pub quote_bytes : ℕ
quote_bytes = 44

abbrev pub max_quotes : ℕ
max_quotes = 1000

-- where the figures of a quote start, after its side
abbrev pub price_at : ℕ
price_at = 4

abbrev pub forward_at : ℕ
forward_at = 12

abbrev pub strike_at : ℕ
strike_at = 20

abbrev pub time_at : ℕ
time_at = 28

abbrev pub factor_at : ℕ
factor_at = 36

-- how many bytes a sheet of n quotes has: there starts the quote with n before it
abbrev pub bytes_of : ℕ → ℕ
bytes_of n = count_bytes + quote_bytes * n

-- one byte more than the longest sheet: no byte of an input after so many changes its text
abbrev pub input_bytes : ℕ
input_bytes = bytes_of max_quotes + 1

-- ---- its quotes

-- how many quotes a sheet has, or the number and count of the refusal that it is refused with
pub data Size : Type 0 where
  quotes : ℕ → Size
  refused : ℕ → ℕ → Size

abbrev pub no_sheet : Size
no_sheet = refused 10 0

-- too short for a count, too many quotes, or not as long as their count says
unfoldable pub size : List ℕ → Size
unfolding unsigned
size s =
    cond (ltb (length s) count_bytes) no_sheet
    (cond (ltb max_quotes (unsigned s 0)) no_sheet
    (cond (eqb (length s) (bytes_of (unsigned s 0))) (quotes (unsigned s 0)) no_sheet))

-- the reply of the quote that starts at `at`
unfoldable pub reply_from : List ℕ → ℕ → Reply
unfolding unsigned double
reply_from s at =
    implied_black_volatility_discounted (unsigned s at)
    (double s (at + price_at)) (double s (at + forward_at)) (double s (at + strike_at)) (double s (at + time_at)) (double s (at + factor_at))

-- the reply of the quote with i quotes before it
abbrev pub reply_at : List ℕ → ℕ → Reply
reply_at s i = reply_from s (bytes_of i)

-- what a sheet replies to the number of a quote, which it may not have; each quote of a refused sheet is refused as the sheet is
pub data SheetReply : Type 0 where
  replied : Reply → SheetReply
  no_quote : SheetReply

abbrev pub sheet_reply_of : List ℕ → ℕ → Size → SheetReply
sheet_reply_of s i (quotes n) = cond (ltb i n) (replied (reply_at s i)) no_quote
sheet_reply_of s i (refused number count) = replied (refusal number count)

unfoldable pub sheet_reply : List ℕ → ℕ → SheetReply
unfolding size reply_from
sheet_reply s i = sheet_reply_of s i (size s)

-- ---- its text

-- of the first n quotes: the lines, and how many finite answers, infinite answers and refusals
unfoldable pub lines : List ℕ → ℕ → List ℕ
unfolding line reply_from
lines s zero = []
lines s (suc n) = lines s n ++ line (suc n) (reply_at s n)

unfoldable pub tally : List ℕ → ℕ → Tally
unfolding reply_from
tally s zero = empty_tally
tally s (suc n) = tally_with (tally s n) (reply_at s n)

-- all that is printed of a sheet
abbrev pub text_of : List ℕ → Size → List ℕ
text_of s (quotes n) = lines s n ++ closing (tally s n)
text_of s (refused number count) = refused_sheet number

unfoldable pub text : List ℕ → List ℕ
unfolding size lines tally closing refused_sheet
text s = text_of s (size s)
