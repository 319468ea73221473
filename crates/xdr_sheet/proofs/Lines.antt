-- How long the text of a line is, whose array has 80 bytes. Assumes nothing.
use Rattle.std.specs.Prelude.{◌≡◌, ℕ, ◌≤◌, ◌<◌, List, length}
use Rattle.std.proofs.Common.{sym, ap, ◌∙◌, arith, take_all}
use Rattle.std.proofs.lemmas.List.{length-take-le}
use Rattle.xdr_sheet.specs.declared.text.Line.{Line}
use Rattle.xdr_sheet.specs.Internal.Lines.{written}

-- an array of 80 bytes, read as a list
pub room : (l : List ℕ) {n : ℕ} → length l ≡ 80 → n < 80 → n < length l
room l e h = omega (arith, e)

-- as many bytes as `count` says are the text
pub written_below : (l : Line) → length l.bytes ≡ 80 → l.length < 80 → l.length ≡ length (written l)
written_below l e h = sym (length-take-le l.length l.bytes (omega (arith, e)))

pub written_above : (l : Line) → length l.bytes ≡ 80 → 80 ≤ l.length → 80 ≡ length (written l)
written_above l e h = sym (ap length (take_all l.length l.bytes (omega (arith, e))) ∙ e)
