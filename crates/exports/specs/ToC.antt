-- What C is handed by a call: the number that is returned, and what then stands at the places that the caller gave. Definitions only.
use Rattle.std.specs.Prelude.{ℕ, zero, suc, Bool, ◌||◌, cond, List, [], ◌++◌, eqb, Float, length, take, Some, None}
use Prim.Native.Char.{code}
use Rattle.explicit_black.specs.Quote.{Reply, answer, refusal}
use Rattle.explicit_black.specs.Price.{PriceReply, price, refusal as refusal_of_price}
use Rattle.ladder.specs.Ladder.{LadderReply, solved, refused as refused_ladder, Ladder}
use Rattle.xdr_sheet.specs.Sheet.{Size, quotes, refused, SheetReply, replied, no_quote}
use Rattle.xdr_sheet.specs.Text.{fits_into, overlaid}
use Rattle.xdr_sheet.specs.Printing.{Progress, Step, step}
use Rattle.xdr_sheet.specs.declared.tally.Tally.{Tally}

-- ---- a reply: the number, and total volatility, volatility and count at their places
pub data ReplyToC : Type 0 where
  handed_reply : ℕ → Float → Float → ℕ → ReplyToC

-- 0 with the figures of an answer; or a refusal's number, and the figures that stood there before
abbrev pub reply_to_c : Float → Float → Reply → ReplyToC
reply_to_c old_total old_volatility (answer total volatility count) = handed_reply 0 total volatility count
reply_to_c old_total old_volatility (refusal number count) = handed_reply number old_total old_volatility count

-- the number, which no refusal has, where an accepted sheet has no such quote: QUOTER_NO_QUOTE of include/quoter.h
abbrev pub no_quote_number : ℕ
no_quote_number = 0xFFFF_FFFF

-- the reply of a quote in a sheet; where there is none, that number, and what stood there before
abbrev pub sheet_reply_to_c : Float → Float → ℕ → SheetReply → ReplyToC
sheet_reply_to_c old_total old_volatility old_count (replied r) = reply_to_c old_total old_volatility r
sheet_reply_to_c old_total old_volatility old_count no_quote = handed_reply no_quote_number old_total old_volatility old_count

-- ---- a price: the number, and the price at its place
pub data PriceToC : Type 0 where
  handed_price : ℕ → Float → PriceToC

-- 0 with the price; or the refusal's number, and what stood there before
abbrev pub price_to_c : Float → PriceReply → PriceToC
price_to_c old (price p) = handed_price 0 p
price_to_c old (refusal_of_price number count) = handed_price number old

-- ---- a ladder: the number, what `roots` then holds, and the four slices
pub data LadderToC : Type 0 where
  handed_ladder : ℕ → ℕ → List Float → List Float → List ℕ → List ℕ → LadderToC

-- 0 with how many; or the refusal's number, and what stood there before; the slices as the ladder leaves them
abbrev pub ladder_number : LadderReply → ℕ
ladder_number (solved roots) = 0
ladder_number (refused_ladder number count) = number

abbrev pub roots_to_c : ℕ → LadderReply → ℕ
roots_to_c old (solved roots) = roots
roots_to_c old (refused_ladder number count) = old

abbrev pub ladder_to_c : ℕ → Ladder → LadderToC
ladder_to_c old l = handed_ladder (ladder_number l.result) (roots_to_c old l.result) l.totals l.volatilities l.counts l.refusals

-- ---- a sheet's size: the number, and how many quotes it has at their place
pub data SizeToC : Type 0 where
  handed_size : ℕ → ℕ → SizeToC

-- 0 with how many; or the refusal's number, and what stood there before
abbrev pub size_to_c : ℕ → Size → SizeToC
size_to_c old (quotes n) = handed_size 0 n
size_to_c old (refused number count) = handed_size number old

-- ---- a line: its letter, and how many bytes it has, the tally and the buffer at their places
pub data LineToC : Type 0 where
  handed_line : ℕ → ℕ → Tally → List ℕ → LineToC

-- the tally after a line: with the line's quote, or as before after the last line and that of a refused sheet
abbrev pub tally_after : Tally → Progress → Tally
tally_after t (Some next) = next
tally_after t None = t

-- the letter, the bytes counted, the tally after the line and the line at the buffer's start; or 0, and what stood there before, where it has no room
abbrev pub line_of : ℕ → Tally → List ℕ → Step → LineToC
line_of old_count t buffer l =
    cond (fits_into l.text (length buffer)) (handed_line l.letter (length l.text) (tally_after t l.next) (overlaid l.text buffer))
    (handed_line 0 old_count t buffer)

-- of a sheet, after the lines of the quotes tallied
abbrev pub line_to_c : ℕ → Tally → List ℕ → List ℕ → LineToC
line_to_c old_count t buffer sheet = line_of old_count t buffer (step sheet t)

-- ---- a caller's loop: a call that is given the count, tally and buffer that the one before left
abbrev pub next_call : List ℕ → LineToC → LineToC
next_call sheet (handed_line letter count t buffer) = line_to_c count t buffer sheet

-- the bytes that a call counted, and whether they are the line of a quote: V and R say so
abbrev pub counted : LineToC → List ℕ
counted (handed_line letter count t buffer) = take count buffer

abbrev pub of_quote : LineToC → Bool
of_quote (handed_line letter count t buffer) = eqb letter (code "V") || eqb letter (code "R")

-- what is printed by a loop that prints the bytes counted and goes on after the line of a quote, in k calls at most
unfoldable pub calls : List ℕ → LineToC → ℕ → List ℕ
calls sheet c zero = []
calls sheet c (suc k) = counted (next_call sheet c) ++ cond (of_quote (next_call sheet c)) (calls sheet (next_call sheet c) k) []
