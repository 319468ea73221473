-- A buffer that is filled a line at a time. Assumes nothing.
use mathlib.Core.Path.{◌≡◌, refl, sym, ap, ◌∙◌}
use mathlib.Core.List.{List, [], ◌++◌, append_assoc, append-nil}
use Rattle.std.specs.Prelude.{Option, Some, None}
use Prim.Native.Nat.{ℕ, ◌+◌, ◌-◌, ◌≤◌, ◌<◌}
use native.Mathlib.Omega.{arith}
use borrow.Rule.Slice.PartMut.{mid_of, put_mid}
use lib.ListN.{length, take, drop, length-append, length-drop, take-append-drop, drop_of_length-le}
use lib.Seq.{take_all, take-append_seam, drop-append_seam, drop-drop}
use Rattle.xdr_sheet.specs.Text.{overlaid}
use Rattle.xdr_sheet.specs.Internal.Lines.{bytes_placed, buffer_after}
use Rattle.xdr_sheet.specs.Laws.Lines.{bytes_placed_lem, none_placed}
use Rattle.xdr_sheet.specs.Printing.{Progress, Step, step, left, Part, no_part, ◌before◌, part, filled_with}
use Rattle.xdr_sheet.specs.Internal.Printing.{view_filled}
use Rattle.xdr_sheet.specs.Laws.Printing.{rest_step, part_over, part_line, part_none}
use Rattle.xdr_sheet.specs.declared.tally.Tally.{Tally}

-- some lines are in the buffer, and what else goes into it comes after them
pub record Sofar (s : List ℕ) (p : Progress) (buffer : List ℕ) (count : ℕ) (next : Progress) (out : List ℕ) : Type 0 where
  pub done : List ℕ
  pub counts : count ≡ length done
  pub within : count ≤ length buffer
  pub bytes : out ≡ overlaid done buffer
  pub same : length out ≡ length buffer
  pub more : part s p (length buffer) ≡ done before part s next (length buffer - count)

pub nothing_yet : (s : List ℕ) (p : Progress) (buffer : List ℕ) → Sofar s p buffer 0 p buffer
nothing_yet s p buffer =
    let z : length buffer - 0 ≡ length buffer = omega arith in
    record { done = []; counts = refl; within = omega arith; bytes = refl; same = refl; more = rw z }

-- where no more goes into the buffer, it is filled
enough : (s : List ℕ) (p : Progress) (buffer : List ℕ) (count : ℕ) (next : Progress) (out : List ℕ)
    → Sofar s p buffer count next out → part s next (length buffer - count) ≡ no_part next
    → view_filled (record { count = count; next = next }) out ≡ filled_with buffer (part s p (length buffer))
enough s p buffer count next out h g =
    let e : part s p (length buffer) ≡ h.done before no_part next = h.more ∙ ap (λ (q : Part). h.done before q) g in
    rw (e, append-nil h.done, h.counts, h.bytes)

-- the last line is in the buffer
pub all_lines : {s : List ℕ} {p : Progress} {buffer : List ℕ} {count : ℕ} {next : Progress} {out : List ℕ}
    → Sofar s p buffer count next out → next ≡ None
    → view_filled (record { count = count; next = next }) out ≡ filled_with buffer (part s p (length buffer))
all_lines {s} {p} {buffer} {count} {next} {out} h e = enough s p buffer count next out h (rw e (part_over s (length buffer - count)))

-- ---- texts in buffers
overlaid_more : (done l buffer : List ℕ) → done ++ overlaid l (drop (length done) buffer) ≡ overlaid (done ++ l) buffer
overlaid_more done l buffer =
    rw (length-append done l, ← drop-drop (length l) (length done) buffer)
    (sym (append_assoc done l (drop (length l) (drop (length done) buffer))))

length_overlaid : (l buffer : List ℕ) → length l ≤ length buffer → length (overlaid l buffer) ≡ length buffer
length_overlaid l buffer h = simp (length-append, length-drop) (omega arith)

before_before : (a b : List ℕ) (q : Part) → a before b before q ≡ (a ++ b) before q
before_before a b q = ap (λ (x : List ℕ). record { text = x; next = q.next }) (sym (append_assoc a b q.text))

-- what is lent from `count` on is all that is left of the buffer
module _ (count : ℕ) (out : List ℕ) where
  tail : mid_of count (length out - count) out ≡ drop count out
  tail = take_all (length out - count) (drop count out) (omega (arith, length-drop count out))

  put_tail : (ys : List ℕ) → put_mid count (length out - count) out ys ≡ take count out ++ ys
  put_tail ys =
      rw (drop_of_length-le (drop count out) {i = length out - count} (omega (arith, length-drop count out)), append-nil ys)

-- ---- a line after those in the buffer
module _ (s : List ℕ) (p : Progress) (buffer : List ℕ) (count : ℕ) (t : Tally) (out : List ℕ)
    (h : Sofar s p buffer count (Some t) out) where
  abbrev line : List ℕ
  line = (step s t).text

  room : length (drop count out) ≡ length buffer - count
  room = length-drop count out ∙ ap (λ (n : ℕ). n - count) h.same

  after_line : take count out ++ overlaid line (drop count out) ≡ overlaid (h.done ++ line) buffer
  after_line = rw (h.bytes, h.counts, take-append_seam, drop-append_seam) (overlaid_more h.done line buffer)

  part_after : length line ≤ length buffer - count
      → part s p (length buffer) ≡ (h.done ++ line) before part s (step s t).next (length buffer - (count + length line))
  part_after g =
      let e : length buffer - (count + length line) ≡ length buffer - count - length line = omega arith in
      rw e
      (h.more ∙ ap (λ (q : Part). h.done before q) (part_line s t (length buffer - count) g)
      ∙ before_before h.done line (part s (step s t).next (length buffer - count - length line)))

  line_fits : length line ≤ length (drop count out)
      → Sofar s p buffer (count + length line) (step s t).next (take count out ++ overlaid line (drop count out))
  line_fits g =
      let fits : length line ≤ length buffer - count = rw room at g in
      record {
        done = h.done ++ line;
        counts = rw (length-append h.done line, h.counts);
        within = omega (arith, h.within);
        bytes = after_line;
        same = ap length after_line
            ∙ length_overlaid (h.done ++ line) buffer (omega (arith, length-append h.done line, h.counts, h.within));
        more = part_after fits;
      }

  none_fits : length (drop count out) < length line
      → view_filled (record { count = count; next = Some t }) out ≡ filled_with buffer (part s p (length buffer))
  none_fits g = enough s p buffer count (Some t) out h (part_none s t (length buffer - count) (omega (arith, room)))

-- ---- the line is put into what is lent of the buffer, or has no room there
abbrev Puts : List ℕ → ℕ → List ℕ → Option ℕ → List ℕ → Type 0
Puts text count out r ys =
    let lent = mid_of count (length out - count) out in
    (r ≡ bytes_placed text lent) × (ys ≡ buffer_after text lent)

module _ {s : List ℕ} {p : Progress} {buffer : List ℕ} {count : ℕ} {next : Progress} {out : List ℕ} {t : Tally} {l : Step}
    (h : Sofar s p buffer count next out) (e : next ≡ Some t) (m : l ≡ step s t) where
  pub one_line : (n : ℕ) (ys : List ℕ) → Puts l.text count out (Some n) ys
      → Sofar s p buffer (count + n) l.next (put_mid count (length out - count) out ys)
  one_line n ys g =
      let f = bytes_placed_lem l.text (mid_of count (length out - count) out) n g.0 in
      rw (put_tail count out ys, g.1, f.2, f.0, m, tail count out)
      (line_fits s p buffer count t out (rw e at h) (rw (m, tail count out) at f.1))

  pub no_line : (ys : List ℕ) → Puts l.text count out None ys
      → view_filled (record { count = count; next = Some t }) (put_mid count (length out - count) out ys)
      ≡ filled_with buffer (part s p (length buffer))
  no_line ys g =
      let f = none_placed l.text (mid_of count (length out - count) out) g.0 in
      rw (put_tail count out ys, g.1, f.1, tail count out, take-append-drop count out)
      (none_fits s p buffer count t out (rw e at h) (rw (m, tail count out) at f.0))

  pub line_falls : left s l.next < left s next
  line_falls = rw (e, m, rest_step s t) (omega arith)
