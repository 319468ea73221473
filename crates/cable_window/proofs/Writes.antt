-- What one write makes of a window: its length, its bytes, the command's word, the words of side and figures, and the results. The laws of
-- specs/Laws/Writes.antt, in whose order these stand, say so of the parts of a write. Assumes nothing.
use Rattle.std.specs.Prelude.{◌≡◌, ◌≢◌, List, false, cond, T, eqb, length}
use Rattle.std.proofs.Math.Path.{refl}
use Rattle.std.proofs.Common.{ap, ◌∙◌, arith, eqb-true, ne_eqb, lit<}
use Prim.Native.Nat.{ℕ, ◌%◌, ◌<◌, ◌^◌}
use Rattle.std.proofs.lemmas.Bool.{eqb-false}
use Rattle.arithmetic.specs.Laws.Choices.{in_both, by_test}
use Rattle.xdr_sheet.specs.Xdr.{unsigned}
use Rattle.cable_window.specs.Window.{window_bytes, command_at, status_at, is_quote_word, bit, with_word, window_reply, cleared, solved, commanded}
use Rattle.cable_window.specs.Window.{after_write, Write}
use Rattle.cable_window.specs.Host.{AreBytes, commands, results_in, results_of, interrupt_cleared}
use Rattle.cable_window.specs.Laws.Bytes.{bytes_with_word, length_with_word, read_same, read_other}
use Rattle.cable_window.specs.Laws.Writes.{quote_word_facts, quote_word_writable, refused_other, by_offset, Outside, keeps_cleared, keeps_reply, AsLong}
use Rattle.cable_window.specs.Laws.Writes.{keeps_length, length_cleared, SameQuoteWord, keeps_quote_word, reply_cleared, results_fit, results_shown, with_reply_lem}
use Rattle.cable_window.specs.Laws.Writes.{results_other, commanded_results, cleared_results, unsolved}

-- ---- what every write of a word outside of side and figures keeps, a command keeps
module _ (P : List ℕ → Type 0) (step : (t : List ℕ) (at w : ℕ) → Outside at → P t → P (with_word t at w)) where
  keeps_solved : (s : List ℕ) (c : ℕ) → P s → P (solved s c)
  unfolding solved
  keeps_solved s c p = in_both P (eqb (bit 0 c) 1) (keeps_reply P step s (window_reply s) p) p

  keeps_commanded : (s : List ℕ) (c : ℕ) → P s → P (commanded s c)
  unfolding commanded
  keeps_commanded s c p = step _ command_at 0 (lit< tt) (keeps_solved (cleared s c) c (keeps_cleared P step s c p))

-- ---- the length
module _ (s : List ℕ) where
  length_solved : (c : ℕ) → length (solved (cleared s c) c) ≡ length s
  length_solved c = keeps_solved (AsLong s) (keeps_length s) (cleared s c) c (length_cleared s c)

  pub length_write : (o w : ℕ) → length (after_write s o w) ≡ length s
  length_write o w = by_offset (AsLong s) s o w (λ _. refl) (λ _. keeps_commanded (AsLong s) (keeps_length s) s w refl) (λ _. length_with_word s o w)

-- ---- its bytes
pub bytes_write : (s : List ℕ) (o w : ℕ) → AreBytes s → AreBytes (after_write s o w)
bytes_write s o w k =
    by_offset AreBytes s o w (λ _. k) (λ _. keeps_commanded AreBytes (λ t at v _. bytes_with_word t at v) s w k) (λ _. bytes_with_word s o w k)

-- ---- the command's word
module _ (s : List ℕ) (l : length s ≡ window_bytes) where
  pub commanded_zero : (c : ℕ) → unsigned (commanded s c) command_at ≡ 0
  unfolding commanded
  commanded_zero c = read_same (solved (cleared s c) c) command_at 0 (omega (arith, length_solved s c)) (lit< tt)

  pub zero_write : (o w : ℕ) → unsigned s command_at ≡ 0 → unsigned (after_write s o w) command_at ≡ 0
  zero_write o w e =
      by_offset (λ t. unsigned t command_at ≡ 0) s o w (λ _. e) (λ _. commanded_zero w)
      (λ f. let k = quote_word_facts o f in read_other s o w command_at (omega arith) ∙ e)

-- ---- a word of side and figures
module _ (s : List ℕ) (at : ℕ) (f : T (is_quote_word at)) where
  pub quote_word_write : (o w : ℕ) → length s ≡ window_bytes → w < 2 ^ 32 → unsigned (after_write s o w) at ≡ cond (eqb o at) w (unsigned s at)
  quote_word_write o w l h =
      let k = quote_word_facts at f in
      by_offset (λ t. unsigned t at ≡ cond (eqb o at) w (unsigned s at)) s o w (λ r. rw (refused_other o at r (quote_word_writable at f)))
      (λ z. rw (ne_eqb o at (λ e. omega arith)) (keeps_commanded (SameQuoteWord s at f) (keeps_quote_word s at f) s w refl))
      (λ g. let j = quote_word_facts o g in
      by_test (λ n. unsigned (with_word s o w) at ≡ n) (eqb o at) (λ t. rw (← eqb-true o at t) (read_same s o w (omega arith) h))
      (λ t. let n : o ≢ at = eqb-false o at t in read_other s o w at (omega arith)))

-- a write of one leaves every other word as it was
pub quote_word_alone : (s : List ℕ) (o w at : ℕ) → T (is_quote_word o) → at % 4 ≡ 0 → at ≢ o → unsigned (after_write s o w) at ≡ unsigned s at
quote_word_alone s o w at f e n =
    let k = quote_word_facts o f in
    by_offset (λ t. unsigned t at ≡ unsigned s at) s o w (λ _. refl) (λ z. omega arith) (λ _. read_other s o w at (omega arith))

-- ---- the results of a solve
pub solve_results : (s : List ℕ) (c : ℕ) → length s ≡ window_bytes → bit 0 c ≡ 1 → results_in (after_write s command_at c) ≡ results_of (window_reply s)
unfolding after_write
solve_results s c l e =
    let t = cleared s c in
    commanded_results s c
    ∙ rw (e, with_reply_lem t (window_reply t)) (results_shown t (results_of (window_reply t)) (length_cleared s c ∙ l) (results_fit t))
    ∙ ap results_of (reply_cleared s c l)

-- ---- the results after a write that does not solve
module _ (s : List ℕ) (l : length s ≡ window_bytes) (h : unsigned s status_at < 2 ^ 32) where
  pub kept_write : (w : Write) → commands 0 w ≡ false → results_in (after_write s w.offset w.word) ≡ interrupt_cleared (commands 1 w) (results_in s)
  kept_write w e =
      let o = w.offset in
      by_offset (λ t. results_in t ≡ interrupt_cleared (commands 1 w) (results_in s)) s o w.word
      (λ r. rw (refused_other o command_at r refl))
      (λ z. commanded_results s w.word ∙ rw (unsolved s l h (cleared s w.word) w.word (rw z at e), z) (cleared_results s l h w.word))
      (λ f. let k = quote_word_facts o f in rw (ne_eqb o command_at (λ z. omega arith)) (results_other s o w.word (omega arith) (omega arith)))
