-- A line in memory: its text, and what is said of a buffer that it is put into. Definitions only.
use Rattle.std.specs.Prelude.{ℕ, cond, List, length, take, Option, Some, None}
use Rattle.xdr_sheet.specs.Text.{fits_into, overlaid}
use Rattle.xdr_sheet.specs.declared.text.Line.{Line}

-- the text of a line
abbrev pub written : Line → List ℕ
written l = take l.length l.bytes

-- a text is put at the start of a buffer if it fits: how many bytes that were, and the buffer after it
unfoldable pub bytes_placed : List ℕ → List ℕ → Option ℕ
bytes_placed text buffer = cond (fits_into text (length buffer)) (Some (length text)) None

unfoldable pub buffer_after : List ℕ → List ℕ → List ℕ
buffer_after text buffer = cond (fits_into text (length buffer)) (overlaid text buffer) buffer
