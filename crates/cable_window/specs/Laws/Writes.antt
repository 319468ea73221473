-- The parts of a write: its offset, and what a clear, a reply and a command make of the length, of the words of side and figures, of the reply and of the
-- results. What a whole write makes of a window follows in proofs/Writes.antt. Assumes nothing.
use Rattle.std.specs.Prelude.{◌≡◌, List, Bool, true, false, cond, ◌||◌, T, eqb, length, Float}
use Rattle.std.proofs.Math.Path.{refl}
use Rattle.std.proofs.Common.{sym, ap, ◌∙◌, true≢false, arith, eqb-true, ne_eqb, eqb→eq, leb→le, lit<, lit≤}
use Prim.Native.Nat.{ℕ, ◌+◌, ◌*◌, ◌-◌, ◌%◌, ◌≤◌, ◌<◌, ◌^◌}
use Rattle.std.specs.Float.{binary64}
use Rattle.std.specs.Float.Ieee.{of_bits}
use Rattle.std.specs.Float.Ieee.Bits.{to_bits-lt}
use Rattle.std.specs.Float.Ieee.Fits.{and_l, and_r}
use Rattle.arithmetic.specs.Laws.Choices.{in_both, by_test}
use Rattle.explicit_black.specs.Quote.{Reply, answer, refusal, implied_black_volatility_input}
use Rattle.explicit_black.specs.Laws.Quote.{FiguresAreNumbers}
use Rattle.xdr_sheet.specs.Xdr.{unsigned, double}
use Rattle.cable_window.specs.Window.{window_bytes, command_at, status_at, side_at, price_at, forward_at, strike_at, time_at, total_at, volatility_at, count_at}
use Rattle.cable_window.specs.Window.{is_quote_word, writable, bit, with_word, with_hyper, window_reply, with_results, with_reply, cleared, solved, commanded}
use Rattle.cable_window.specs.Window.{without_interrupt, after_write}
use Rattle.cable_window.specs.Host.{Results, results_in, results_of, interrupt_cleared}
use Rattle.cable_window.specs.Laws.Fits.{ReplyFits, reply_fits, reply_numbers}
use Rattle.cable_window.specs.Laws.Bytes.{length_with_word, length_with_hyper, Apart, read_same, read_other, read_past_hyper}
use Rattle.cable_window.specs.Laws.Bytes.{hyper_words, hyper_same, hyper_other, hyper_past_hyper}

-- ---- a write by its offset
pub quote_word_facts : (o : ℕ) → T (is_quote_word o) → (o % 4 ≡ 0) × (8 ≤ o) × (o ≤ 40)
quote_word_facts o f = search (and_l, and_r, eqb→eq, leb→le)

pub quote_word_writable : (at : ℕ) → T (is_quote_word at) → writable at ≡ true
quote_word_writable at = go (eqb at command_at) (is_quote_word at)
  where
    go : (a b : Bool) → T b → (a || b) ≡ true
    go true b f = refl
    go false true f = refl
    go false false f = absurd f

-- an offset that is refused is none that is writable
pub refused_other : (o at : ℕ) → writable o ≡ false → writable at ≡ true → eqb o at ≡ false
refused_other o at f t = ne_eqb o at (λ e. true≢false (sym t ∙ ap writable (sym e) ∙ f))

-- it is refused, a command, or a word of side and figures
pub by_offset : (P : List ℕ → Type 0) (s : List ℕ) (o w : ℕ) → (writable o ≡ false → P s) → (o ≡ command_at → P (commanded s w))
    → (T (is_quote_word o) → P (with_word s o w)) → P (after_write s o w)
unfolding after_write
by_offset P s o w refused command figure =
    by_test P (writable o)
    (λ t. by_test P (eqb o command_at) (λ z. command (eqb-true o command_at z)) (λ z. figure (let f : is_quote_word o ≡ true = rw z at t in rw f tt)))
    refused

-- ---- what every write of a word outside of side and figures keeps, a clear and a reply keep

-- the word at `at` ends at 8 or before, or starts at 44 or after
abbrev pub Outside : ℕ → Type 0
Outside at = 0 < (5 - at) + (at - 43)

module _ (P : List ℕ → Type 0) (step : (t : List ℕ) (at w : ℕ) → Outside at → P t → P (with_word t at w)) where
  pub keeps_cleared : (s : List ℕ) (c : ℕ) → P s → P (cleared s c)
  unfolding cleared
  keeps_cleared s c p = in_both P (eqb (bit 1 c) 1) (step s status_at _ (lit< tt) p) p

  keeps_hyper : (s : List ℕ) (at n : ℕ) → Outside at → Outside (at + 4) → P s → P (with_hyper s at n)
  unfolding with_hyper
  keeps_hyper s at n h g p = step _ (at + 4) _ g (step s at _ h p)

  keeps_results : (s : List ℕ) (status total volatility count : ℕ) → P s → P (with_results s status total volatility count)
  unfolding with_results
  keeps_results s status total volatility count p =
      step _ count_at count (lit< tt)
      (keeps_hyper _ volatility_at volatility (lit< tt) (lit< tt) (keeps_hyper _ total_at total (lit< tt) (lit< tt) (step s status_at status (lit< tt) p)))

  pub keeps_reply : (s : List ℕ) (r : Reply) → P s → P (with_reply s r)
  keeps_reply s (answer total volatility count) p = keeps_results s _ _ _ _ p
  keeps_reply s (refusal number count) p = keeps_results s _ _ _ _ p

-- ---- the length
module _ (s : List ℕ) where
  abbrev pub AsLong : List ℕ → Type 0
  AsLong t = length t ≡ length s

  pub keeps_length : (t : List ℕ) (at w : ℕ) → Outside at → AsLong t → AsLong (with_word t at w)
  keeps_length t at w h e = length_with_word t at w ∙ e

  pub length_cleared : (c : ℕ) → length (cleared s c) ≡ length s
  length_cleared c = keeps_cleared AsLong keeps_length s c refl

-- ---- a word of side and figures
module _ (s : List ℕ) (at : ℕ) (f : T (is_quote_word at)) where
  abbrev pub SameQuoteWord : List ℕ → Type 0
  SameQuoteWord t = unsigned t at ≡ unsigned s at

  pub keeps_quote_word : (t : List ℕ) (b w : ℕ) → Outside b → SameQuoteWord t → SameQuoteWord (with_word t b w)
  keeps_quote_word t b w h e = let k = quote_word_facts at f in read_other t b w at (omega arith) ∙ e

-- ---- the reply, by the words of side and figures
abbrev double_of : (ℕ → ℕ) → ℕ → Float
double_of word at = of_bits binary64 (word at * 2 ^ 32 + word (at + 4))

abbrev pub reply_by : (ℕ → ℕ) → Reply
reply_by word =
    implied_black_volatility_input (word side_at) (double_of word price_at) (double_of word forward_at) (double_of word strike_at) (double_of word time_at)

pub same_reply : (f g : ℕ → ℕ) → ((at : ℕ) → T (is_quote_word at) → f at ≡ g at) → reply_by f ≡ reply_by g
same_reply f g e = rw (e 8 tt, e 12 tt, e 16 tt, e 20 tt, e 24 tt, e 28 tt, e 32 tt, e 36 tt, e 40 tt)

pub reply_by_lem : (s : List ℕ) → length s ≡ window_bytes → window_reply s ≡ reply_by (unsigned s)
unfolding window_reply double
reply_by_lem s l =
    rw (
      hyper_words s price_at (omega arith),
      hyper_words s forward_at (omega arith),
      hyper_words s strike_at (omega arith),
      hyper_words s time_at (omega arith),
    )

pub reply_cleared : (s : List ℕ) (c : ℕ) → length s ≡ window_bytes → window_reply (cleared s c) ≡ window_reply s
reply_cleared s c l =
    reply_by_lem (cleared s c) (length_cleared s c ∙ l)
    ∙ same_reply (unsigned (cleared s c)) (unsigned s) (λ at f. keeps_cleared (SameQuoteWord s at f) (keeps_quote_word s at f) s c refl)
    ∙ sym (reply_by_lem s l)

-- ---- the results of a solve
pub record ResultsFit (r : Results) : Type 0 where
  pub status_fits : r.status < 2 ^ 32
  pub total_fits : r.total < 2 ^ 64
  pub volatility_fits : r.volatility < 2 ^ 64
  pub count_fits : r.count < 2 ^ 32

fits_of : (r : Reply) → ReplyFits r → FiguresAreNumbers r → ResultsFit (results_of r)
fits_of (answer total volatility count) h f = record {
  status_fits = lit< tt;
  total_fits = to_bits-lt binary64 total f.1;
  volatility_fits = to_bits-lt binary64 volatility f.3;
  count_fits = h;
}
fits_of (refusal number count) h f = record {
  status_fits = omega (arith, h.0);
  total_fits = lit< tt;
  volatility_fits = lit< tt;
  count_fits = h.1;
}

pub results_fit : (s : List ℕ) → ResultsFit (results_of (window_reply s))
results_fit s = fits_of (window_reply s) (reply_fits s) (reply_numbers s)

module _ (s : List ℕ) (r : Results) where
  abbrev pub shown : List ℕ
  shown = with_results s r.status r.total r.volatility r.count

  abbrev status_there : List ℕ
  status_there = with_word s status_at r.status

  abbrev total_there : List ℕ
  total_there = with_hyper status_there total_at r.total

  abbrev volatility_there : List ℕ
  volatility_there = with_hyper total_there volatility_at r.volatility

  shown_is : shown ≡ with_word volatility_there count_at r.count
  unfolding with_results
  shown_is = refl

  pub results_shown : length s ≡ window_bytes → ResultsFit r → results_in shown ≡ r
  results_shown l f =
      let a = length_with_word s status_at r.status in
      let b = length_with_hyper status_there total_at r.total in
      let c = length_with_hyper total_there volatility_at r.volatility in
      rw (
        shown_is,
        read_other volatility_there count_at r.count status_at (lit≤ tt),
        read_past_hyper total_there volatility_at r.volatility status_at (lit≤ tt) (lit≤ tt),
        read_past_hyper status_there total_at r.total status_at (lit≤ tt) (lit≤ tt),
        read_same s status_at r.status (omega arith) f.status_fits,
        hyper_other volatility_there count_at r.count total_at (lit≤ tt) (lit≤ tt),
        hyper_past_hyper total_there volatility_at r.volatility total_at (lit≤ tt),
        hyper_same status_there total_at r.total (omega arith) f.total_fits,
        hyper_other volatility_there count_at r.count volatility_at (lit≤ tt) (lit≤ tt),
        hyper_same total_there volatility_at r.volatility (omega arith) f.volatility_fits,
        read_same volatility_there count_at r.count (omega arith) f.count_fits,
      )

pub with_reply_lem : (s : List ℕ) (r : Reply) → with_reply s r ≡ shown s (results_of r)
with_reply_lem s (answer total volatility count) = refl
with_reply_lem s (refusal number count) = refl

-- a word of side and figures, and the command's, is none of them
pub results_other : (s : List ℕ) (at w : ℕ) → at ≤ 40 → Apart at status_at → results_in (with_word s at w) ≡ results_in s
results_other s at w h g =
    rw (
      read_other s at w status_at g,
      hyper_other s at w total_at (omega arith) (omega arith),
      hyper_other s at w volatility_at (omega arith) (omega arith),
      read_other s at w count_at (omega arith),
    )

pub commanded_results : (s : List ℕ) (c : ℕ) → results_in (commanded s c) ≡ results_in (solved (cleared s c) c)
unfolding commanded
commanded_results s c = results_other (solved (cleared s c) c) command_at 0 (lit≤ tt) (lit≤ tt)

-- ---- the results after a clear, and after a command that does not solve
module _ (s : List ℕ) (l : length s ≡ window_bytes) (h : unsigned s status_at < 2 ^ 32) where
  pub cleared_results : (c : ℕ) → results_in (cleared s c) ≡ interrupt_cleared (eqb (bit 1 c) 1) (results_in s)
  unfolding cleared
  cleared_results c = go (eqb (bit 1 c) 1)
    where
      n : ℕ
      n = without_interrupt (unsigned s status_at)

      go : (b : Bool) → results_in (cond b (with_word s status_at n) s) ≡ interrupt_cleared b (results_in s)
      go true =
          rw (
            read_same s status_at n (omega arith) (omega arith),
            hyper_other s status_at n total_at (lit≤ tt) (lit≤ tt),
            hyper_other s status_at n volatility_at (lit≤ tt) (lit≤ tt),
            read_other s status_at n count_at (lit≤ tt),
          )
      go false = refl

  pub unsolved : (t : List ℕ) (c : ℕ) → eqb (bit 0 c) 1 ≡ false → solved t c ≡ t
  unfolding solved
  unsolved t c e = rw e
