-- What C is handed of a line that was put into the caller's buffer, or had no room there. Assumes nothing.
use mathlib.Core.Path.{◌≡◌}
use mathlib.Core.List.{List}
use Prim.Native.Nat.{ℕ}
use borrow.Author.Tests.{le-leb, lt-leb}
use lib.ListN.{length}
use Rattle.xdr_sheet.specs.Internal.Lines.{bytes_placed, buffer_after}
use Rattle.xdr_sheet.specs.Laws.Lines.{bytes_placed_lem, none_placed}
use Rattle.xdr_sheet.specs.Printing.{Step}
use Rattle.xdr_sheet.specs.declared.tally.Tally.{Tally}
use Rattle.std.specs.Prelude.{Some, None}
use Rattle.exports.specs.ToC.{tally_after, handed_line, line_of}

module _ (old : ℕ) (t : Tally) (buffer : List ℕ) {l m : Step} (e : l ≡ m) where
  pub line_put : (n : ℕ) (u : Tally) (after : List ℕ)
      → Some n ≡ bytes_placed l.text buffer → u ≡ tally_after t l.next → after ≡ buffer_after l.text buffer
      → handed_line l.letter n u after ≡ line_of old t buffer m
  line_put n u after p i q =
      let f = bytes_placed_lem l.text buffer n p in
      rw (q, f.2, f.0, i, ← e, le-leb (length l.text) (length buffer) f.1)

  pub line_not_put : (after : List ℕ)
      → None ≡ bytes_placed l.text buffer → after ≡ buffer_after l.text buffer → handed_line 0 old t after ≡ line_of old t buffer m
  line_not_put after p q =
      let f = none_placed l.text buffer p in
      rw (q, f.1, ← e, lt-leb (length l.text) (length buffer) f.0)
