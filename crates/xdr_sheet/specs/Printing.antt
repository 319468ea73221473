-- A sheet's text line by line, and in parts of whole lines as buffers hold them (REQUIREMENTS 11.6). Definitions only.
use Prim.Native.Char.{code}
use Rattle.std.specs.Prelude.{ℕ, zero, suc, ◌+◌, ◌-◌, ◌≤◌, cond, List, [], ◌∷◌, ◌++◌, length, Option, Some, None}
use Rattle.explicit_black.specs.Quote.{Reply}
use Rattle.xdr_sheet.specs.Tally.{empty_tally, tally_with, tally_count}
use Rattle.xdr_sheet.specs.Text.{line_bytes, line, letter, closing, refused_sheet, fits_into, overlaid}
use Rattle.xdr_sheet.specs.Sheet.{Size, quotes, refused, size, reply_at, SheetReply, replied, no_quote, sheet_reply}
use Rattle.xdr_sheet.specs.declared.tally.Tally.{Tally}

-- how far the text is printed: the lines of the quotes tallied, or all of it
abbrev pub Progress : Type 0
Progress = Option Tally

-- before the first line
abbrev pub start : Progress
start = Some empty_tally

-- ---- a line: its text, its letter, and the progress after it
pub record Step : Type 0 where
  pub text : List ℕ
  pub letter : ℕ
  pub next : Progress

-- the line of a quote after those tallied; the last, with the tally; the line of a refused sheet
abbrev pub quote_step : Tally → Reply → Step
quote_step t r = record { text = line (tally_count t + 1) r; letter = letter r; next = Some (tally_with t r) }

abbrev pub last_step_of : Tally → Step
last_step_of t = record { text = closing t; letter = code "T"; next = None }

abbrev pub refused_step : ℕ → Step
refused_step number = record { text = refused_sheet number; letter = code "S"; next = None }

-- the line after those of the quotes tallied
abbrev pub step_at : Tally → SheetReply → Step
step_at t (replied r) = quote_step t r
step_at t no_quote = last_step_of t

abbrev pub step_of : List ℕ → Tally → Size → Step
step_of s t (quotes n) = step_at t (sheet_reply s (tally_count t))
step_of s t (refused number count) = refused_step number

unfoldable pub step : List ℕ → Tally → Step
unfolding size sheet_reply line closing refused_sheet
step s t = step_of s t (size s)

-- ---- all lines that are still to come: of m quotes and the last, or of a refused sheet
unfoldable pub upcoming : List ℕ → Tally → ℕ → List Step
upcoming s t zero = last_step_of t ∷ []
upcoming s t (suc m) = quote_step t (reply_at s (tally_count t)) ∷ upcoming s (tally_with t (reply_at s (tally_count t))) m

abbrev pub rest_of : List ℕ → Tally → Size → List Step
rest_of s t (quotes n) = upcoming s t (n - tally_count t)
rest_of s t (refused number count) = refused_step number ∷ []

unfoldable pub rest : List ℕ → Progress → List Step
unfolding size upcoming
rest s (Some t) = rest_of s t (size s)
rest s None = []

-- how many lines: 0 where the last is printed
abbrev pub left : List ℕ → Progress → ℕ
left s p = length (rest s p)

-- ---- a part: as many whole lines as go into so many bytes, and the progress after them
pub record Part : Type 0 where
  pub text : List ℕ
  pub next : Progress

abbrev pub no_part : Progress → Part
no_part p = record { text = []; next = p }

infixr 20 ◌before◌
abbrev pub ◌before◌ : List ℕ → Part → Part
text before q = record { text = text ++ q.text; next = q.next }

-- of the lines ls, which come after p
unfoldable pub part_of : ℕ → Progress → List Step → Part
part_of room p [] = no_part p
part_of room p (l ∷ ls) =
    cond (fits_into l.text room) (l.text before part_of (room - length l.text) l.next ls) (no_part p)

unfoldable pub part : List ℕ → Progress → ℕ → Part
unfolding part_of rest
part s p room = part_of room p (rest s p)

-- a part for each of some buffers in turn, of which the lengths are given
unfoldable pub parts : List ℕ → Progress → List ℕ → Part
unfolding part
parts s p [] = no_part p
parts s p (room ∷ rooms) = (part s p room).text before parts s (part s p room).next rooms

-- each buffer has room for the longest line
abbrev pub Roomy : List ℕ → Type 0
Roomy [] = Unit
Roomy (room ∷ rooms) = (line_bytes ≤ room) × Roomy rooms

-- ---- a buffer with a part at its start: how many bytes, the progress after them, and the buffer, its other bytes as before
pub record FilledBuffer : Type 0 where
  pub count : ℕ
  pub next : Progress
  pub buffer : List ℕ

abbrev pub filled_with : List ℕ → Part → FilledBuffer
filled_with buffer q = record { count = length q.text; next = q.next; buffer = overlaid q.text buffer }
