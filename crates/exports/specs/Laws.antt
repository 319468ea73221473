-- A loop of calls of `quoter_sheet_line` that starts with three tallies of 0, and stops after a letter other than V and R, prints a sheet's text.
-- Assumes nothing.
use Rattle.std.specs.Prelude.{◌≡◌, cond, true, length, drop}
use Rattle.std.proofs.Math.Path.{refl, sym, ap}
use Rattle.std.proofs.Common.{◌∙◌, le_trans, add-one, length-append, length-drop}
use Prim.Native.Nat.{ℕ, zero, suc, ◌+◌, ◌≤◌, ◌<◌}
use native.Mathlib.Omega.{arith}
use mathlib.Core.List.{List, [], ◌++◌, append_assoc, append-nil}
use borrow.Author.Tests.{le-leb}
use Rattle.std.proofs.Math.Seq.{take-append_seam}
use Rattle.explicit_black.specs.Quote.{Reply, answer, refusal}
use Rattle.xdr_sheet.specs.Tally.{empty_tally, tally_count}
use Rattle.xdr_sheet.specs.Text.{sheet_line_bytes, line, letter, closing, refused_sheet, overlaid}
use Rattle.xdr_sheet.specs.Sheet.{max_quotes, Size, quotes, refused, size, reply_at, replied, no_quote, sheet_reply, lines, tally, text_of, text}
use Rattle.xdr_sheet.specs.Printing.{Step, quote_step, last_step_of, refused_step, step}
use Rattle.xdr_sheet.specs.Laws.Sheet.{size_count, quote_there, quote_past}
use Rattle.xdr_sheet.specs.Laws.Lines.{refused_fits}
use Rattle.xdr_sheet.specs.Laws.Tally.{tally_counts}
use Rattle.xdr_sheet.specs.Laws.Printing.{step_quote, step_last, step_refused, step_fits}
use Rattle.xdr_sheet.specs.declared.tally.Tally.{Tally}
use Rattle.exports.specs.ToC.{tally_after, LineToC, handed_line, of_quote, calls}

-- a buffer with a text at its start is no shorter
still_long : (x buffer : List ℕ) → length buffer ≤ length (overlaid x buffer)
still_long x buffer = omega (arith, length-append x (drop (length x) buffer), length-drop (length x) buffer)

-- ---- the calls from one that has room for the line l: its bytes, and what comes after it
module _ (s buffer : List ℕ) (given count k : ℕ) (t : Tally) (l : Step) (e : step s t ≡ l) (h : length l.text ≤ length buffer) where
  abbrev left_by : LineToC
  left_by = handed_line l.letter (length l.text) (tally_after t l.next) (overlaid l.text buffer)

  calls_from : calls s (handed_line given count t buffer) (suc k) ≡ l.text ++ cond (of_quote left_by) (calls s left_by k) []
  unfolding calls
  calls_from = rw (e, le-leb (length l.text) (length buffer) h) (rw (take-append_seam l.text (drop (length l.text) buffer)))

letter_of_quote : (r : Reply) (n : ℕ) (t : Tally) (b : List ℕ) → of_quote (handed_line (letter r) n t b) ≡ true
letter_of_quote (answer total volatility count) n t b = refl
letter_of_quote (refusal reason count) n t b = refl

-- ---- a sheet of n quotes
module _ (s : List ℕ) (n : ℕ) (e : quotes n ≡ size s) where
  -- after the lines of i quotes: the tally after one more, and the line
  goes_on : (i : ℕ) → tally_after (tally s i) (quote_step (tally s i) (reply_at s i)).next ≡ tally s (suc i)
  unfolding tally
  goes_on i = refl

  step_of : (i : ℕ) → i < n → step s (tally s i) ≡ quote_step (tally s i) (reply_at s i)
  step_of i h =
      let q : replied (reply_at s i) ≡ sheet_reply s (tally_count (tally s i)) = rw (tally_counts s i) (quote_there s n i e h) in
      sym (step_quote s (tally s i) n (reply_at s i) e q)

  last_step : step s (tally s n) ≡ last_step_of (tally s n)
  last_step =
      let q : no_quote ≡ sheet_reply s (tally_count (tally s n)) = rw (tally_counts s n) (quote_past s n n e (omega arith)) in
      sym (step_last s (tally s n) n e q)

  -- with room for the longest line of a sheet there is room for it
  room : (i : ℕ) → i ≤ n → (l : Step) → step s (tally s i) ≡ l → (buffer : List ℕ) → sheet_line_bytes ≤ length buffer
      → length l.text ≤ length buffer
  room i h l q buffer b =
      let few : n ≤ max_quotes = size_count s n e in
      let sum = tally_counts s i in
      let short = step_fits s (tally s i) (omega (arith, sum)) (omega (arith, sum)) (omega (arith, sum)) in
      le_trans (rw q at short) b

  abbrev its_line : ℕ → List ℕ
  its_line i = line (suc i) (reply_at s i)

  one_call : (i m given count : ℕ) (buffer : List ℕ) → i < n → sheet_line_bytes ≤ length buffer
      → calls s (handed_line given count (tally s i) buffer) (suc m)
      ≡ its_line i ++ calls s (handed_line (letter (reply_at s i)) (length (its_line i)) (tally s (suc i)) (overlaid (its_line i) buffer)) m
  one_call i m given count buffer h b =
      let t = tally s i in
      let r = reply_at s i in
      calls_from s buffer given count m t (quote_step t r) (step_of i h) (room i (omega arith) (quote_step t r) (step_of i h) buffer b)
      ∙ rw (letter_of_quote r _ _ _, tally_counts s i, add-one i, goes_on i)

  last_call : (m given count : ℕ) (buffer : List ℕ) → sheet_line_bytes ≤ length buffer
      → calls s (handed_line given count (tally s n) buffer) (suc m) ≡ closing (tally s n)
  last_call m given count buffer b =
      let t = tally s n in
      calls_from s buffer given count m t (last_step_of t) last_step (room n (omega arith) (last_step_of t) last_step buffer b) ∙ append-nil (closing t)

  -- where k quotes are left, and calls for them and the last line
  from_line : (k i m : ℕ) → i + k ≡ n → k ≤ m → (given count : ℕ) (buffer : List ℕ) → sheet_line_bytes ≤ length buffer
      → lines s i ++ calls s (handed_line given count (tally s i) buffer) (suc m) ≡ lines s n ++ closing (tally s n)
  unfolding lines
  from_line zero i m h g given count buffer b =
      let j : i ≡ n = omega arith in
      rw (j, last_call m given count buffer b)
  from_line (suc k) i zero h g given count buffer b = absurd (omega arith)
  from_line (suc k) i (suc m) h g given count buffer b =
      let x = its_line i in
      ap (λ (y : List ℕ). lines s i ++ y) (one_call i (suc m) given count buffer (omega arith) b)
      ∙ sym (append_assoc (lines s i) x _)
      ∙ from_line k (suc i) m (omega arith) (omega arith) _ _ (overlaid x buffer) (le_trans b (still_long x buffer))

-- ---- THE TEXT: with room for a line of a sheet, whatever letter, count and buffer come first. The loop stops by itself: with any number of calls
-- above `max_quotes` allowed it prints the same
pub calls_print : (s buffer : List ℕ) (given count k : ℕ) → sheet_line_bytes ≤ length buffer → max_quotes < k
    → calls s (handed_line given count empty_tally buffer) k ≡ text s
unfolding text lines tally
calls_print s buffer given count zero b h = absurd (omega arith)
calls_print s buffer given count (suc k) b h = go (size s) refl
  where
    go : (z : Size) → z ≡ size s → calls s (handed_line given count empty_tally buffer) (suc k) ≡ text_of s z
    go (quotes n) e =
        let few : n ≤ max_quotes = size_count s n e in
        from_line s n e n 0 k (omega arith) (omega arith) given count buffer b
    go (refused number zeros) e =
        let q = sym (step_refused s empty_tally number zeros e) in
        calls_from s buffer given count k empty_tally (refused_step number) q (le_trans (refused_fits number) b) ∙ append-nil (refused_sheet number)
