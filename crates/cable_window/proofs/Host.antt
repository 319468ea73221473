-- The promises to a host (REQUIREMENTS 14.6): what it reads after a write, and after every list of writes. Those that do not rest on what one write makes
-- of a window stand in specs/Laws/Host.antt. Assumes nothing.
use Rattle.std.specs.Prelude.{◌≡◌, refl, List, [], ◌∷◌, ◌++◌, Bool, true, false, ℕ, ◌+◌, ◌/◌, ◌%◌, ◌≤◌, ◌<◌, ◌^◌, T, length, Float}
use Rattle.std.proofs.Common.{sym, ap, ◌∙◌, subst, arith, lit<}
use Rattle.std.specs.Float.{binary64}
use Rattle.std.specs.Float.Ieee.{of_bits}
use Rattle.std.specs.Float.Ieee.Bits.{of_bits-to_bits}
use Rattle.arithmetic.specs.Laws.Choices.{in_both}
use Rattle.explicit_black.specs.Quote.{answer}
use Rattle.explicit_black.specs.Laws.Quote.{FiguresAreNumbers}
use Rattle.xdr_sheet.specs.Xdr.{unsigned, hyper, double}
use Rattle.cable_window.specs.Window.{window_bytes, command_at, status_at, total_at, volatility_at, count_at, zeros, is_quote_word, bit, window_reply}
use Rattle.cable_window.specs.Window.{after_write, Write, after_writes}
use Rattle.cable_window.specs.Host.{AreBytes, AreWords, last_word, reply_after, commands, any_solves, any_clears, results_in, no_results, results_of}
use Rattle.cable_window.specs.Host.{interrupt_cleared, StatusBits}
use Rattle.cable_window.specs.Laws.Fits.{reply_fits, reply_numbers}
use Rattle.cable_window.specs.Laws.Bytes.{read_zeros, zero_bytes, hyper_halves}
use Rattle.cable_window.specs.Laws.Writes.{same_reply, reply_by_lem, results_fit}
use Rattle.cable_window.specs.Laws.Host.{kept_after, status_bits, neither, cleared_twice, after_append}
use Rattle.cable_window.proofs.Writes.{length_write, solve_results, bytes_write, quote_word_write, zero_write, commanded_zero, kept_write}

-- ---- what every write keeps, every list of writes keeps
-- a window's length
pub length_after : (s : List ℕ) (l : List Write) → length (after_writes s l) ≡ length s
length_after s l = kept_after (λ t. length t ≡ length s) (λ t o w e. length_write t o w ∙ e) s l refl

-- and that its bytes have 8 bits, so that a result's two words are the halves of its number
bytes_after : (s : List ℕ) (l : List Write) → AreBytes s → AreBytes (after_writes s l)
bytes_after s l k = kept_after AreBytes bytes_write s l k

pub halves_after : (l : List Write) (at : ℕ) → at + 8 ≤ window_bytes
    → (unsigned (after_writes zeros l) at ≡ hyper (after_writes zeros l) at / 2 ^ 32)
    × (unsigned (after_writes zeros l) (at + 4) ≡ hyper (after_writes zeros l) at % 2 ^ 32)
halves_after l at h =
    hyper_halves (after_writes zeros l) at (omega (arith, length_after zeros l)) (bytes_after zeros l (zero_bytes window_bytes))

-- ---- the command's word

-- after a command, whatever the window, it reads as 0
pub command_reads_zero : (s : List ℕ) (c : ℕ) → length s ≡ window_bytes → unsigned (after_write s command_at c) command_at ≡ 0
unfolding after_write
command_reads_zero s c l = commanded_zero s l c

-- and from zeros it does after every list of writes
pub command_zero : (l : List Write) → unsigned (after_writes zeros l) command_at ≡ 0
command_zero l =
    (kept_after (λ t. (length t ≡ window_bytes) × (unsigned t command_at ≡ 0)) (λ t o w k. (length_write t o w ∙ k.0, zero_write t k.0 o w k.1))
    zeros l (refl, read_zeros window_bytes command_at)).1

-- ---- side and figures

-- each word of them reads as it was last written, and as before where none was
pub quote_word_last : (s : List ℕ) (l : List Write) (at : ℕ) → length s ≡ window_bytes → AreWords l → T (is_quote_word at)
    → unsigned (after_writes s l) at ≡ last_word (unsigned s at) l at
unfolding after_writes
quote_word_last s [] at h a f = refl
quote_word_last s (w ∷ rest) at h a f =
    quote_word_last (after_write s w.offset w.word) rest at (length_write s w.offset w.word ∙ h) a.1 f
    ∙ ap (λ n. last_word n rest at) (quote_word_write s at f w.offset w.word h a.0)

-- so what a solve answers is the quote that was last written
pub reply_last : (l : List Write) → AreWords l → window_reply (after_writes zeros l) ≡ reply_after l
unfolding reply_after
reply_last l a =
    reply_by_lem (after_writes zeros l) (length_after zeros l)
    ∙ same_reply (unsigned (after_writes zeros l)) (last_word 0 l) (λ at f. quote_word_last zeros l at refl a f ∙ rw (read_zeros window_bytes at))

-- ---- the status, bit by bit
-- as it reads after a solve, of any window
pub solved_status_lem : (s : List ℕ) (c : ℕ) → length s ≡ window_bytes → bit 0 c ≡ 1
    → StatusBits (unsigned (after_write s command_at c) status_at) (window_reply s)
solved_status_lem s c l e =
    subst (λ n. StatusBits n (window_reply s)) (sym (ap (λ r. r.status) (solve_results s c l e))) (status_bits (window_reply s) (reply_fits s))

-- ---- the results
kept_writes : (s : List ℕ) (l : List Write) → length s ≡ window_bytes → unsigned s status_at < 2 ^ 32 → any_solves l ≡ false
    → results_in (after_writes s l) ≡ interrupt_cleared (any_clears l) (results_in s)
unfolding after_writes
kept_writes s [] l h e = refl
kept_writes s (w ∷ rest) l h e =
    let n = neither (commands 0 w) (any_solves rest) e in
    let k = kept_write s l h w n.0 in
    kept_writes (after_write s w.offset w.word) rest (length_write s w.offset w.word ∙ l)
    (rw (ap (λ r. r.status) k) (in_both (λ (m : ℕ). m < 2 ^ 32) (commands 1 w) (omega arith) h)) n.1
    ∙ ap (interrupt_cleared (any_clears rest)) k
    ∙ cleared_twice (commands 1 w) (any_clears rest) (results_in s)

-- from zeros and without a solve they are zeros
pub no_solve : (l : List Write) → any_solves l ≡ false → results_in (after_writes zeros l) ≡ no_results
unfolding unsigned hyper
no_solve l e = kept_writes zeros l refl (lit< tt) e ∙ go (any_clears l)
  where
    go : (b : Bool) → interrupt_cleared b (results_in zeros) ≡ no_results
    go true = refl
    go false = refl

-- else they are those of the last solve, of the quote written before it, with the interrupt cleared if a clear has come since
pub last_solve : (l m : List Write) (c : ℕ) → AreWords l → bit 0 c ≡ 1 → any_solves m ≡ false
    → results_in (after_writes zeros (l ++ record { offset = command_at; word = c } ∷ m)) ≡ interrupt_cleared (any_clears m) (results_of (reply_after l))
unfolding after_writes
last_solve l m c a e n =
    let s = after_writes zeros l in
    let k = solve_results s c (length_after zeros l) e in
    ap results_in (after_append zeros l (record { offset = command_at; word = c } ∷ m))
    ∙ kept_writes (after_write s command_at c) m (length_write s command_at c ∙ length_after zeros l) (rw (ap (λ r. r.status) k) (results_fit s).status_fits) n
    ∙ ap (interrupt_cleared (any_clears m)) (k ∙ ap results_of (reply_last l a))

-- ---- an answer, read as doubles
pub answer_read : (s : List ℕ) (c : ℕ) (v w : Float) (n : ℕ) → length s ≡ window_bytes → bit 0 c ≡ 1 → window_reply s ≡ answer v w n
    → (double (after_write s command_at c) total_at ≡ v) × (double (after_write s command_at c) volatility_at ≡ w)
    × (unsigned (after_write s command_at c) count_at ≡ n)
unfolding double
answer_read s c v w n l e q =
    let k = solve_results s c l e ∙ ap results_of q in
    let f : FiguresAreNumbers (answer v w n) = subst FiguresAreNumbers q (reply_numbers s) in (
      ap (λ r. of_bits binary64 r.total) k ∙ of_bits-to_bits binary64 v f.1,
      ap (λ r. of_bits binary64 r.volatility) k ∙ of_bits-to_bits binary64 w f.3,
      ap (λ r. r.count) k,
    )
