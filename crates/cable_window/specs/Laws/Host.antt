-- Promises to a host (REQUIREMENTS 14.6) that hold whatever a write makes of a window, and what the others need. Those follow in proofs/Host.antt.
-- Assumes nothing.
use Rattle.std.specs.Prelude.{◌≡◌, refl, ◌⊎◌, List, [], ◌∷◌, ◌++◌, Bool, true, false, cond, ◌&&◌, ◌||◌, ℕ, suc, ◌+◌, ◌/◌, ◌%◌, ◌<◌, ◌^◌, eqb, get_or}
use Rattle.std.proofs.Common.{sym, ap, inl, inr, true≢false, arith, eqb-true}
use Rattle.std.specs.Float.{binary64}
use Rattle.std.specs.Float.Ieee.Bits.{of_bits-fits}
use Rattle.arithmetic.specs.Operations.{one}
use Rattle.arithmetic.specs.Laws.Choices.{by_test}
use Rattle.explicit_black.specs.Quote.{Reply, answer, refusal}
use Rattle.explicit_black.specs.Discount.{implied_black_volatility_discounted}
use Rattle.explicit_black.specs.Laws.Discount.{factor_one}
use Rattle.xdr_sheet.specs.Xdr.{unsigned, hyper, double}
use Rattle.xdr_sheet.specs.Sheet.{price_at, forward_at, strike_at, time_at}
use Rattle.cable_window.specs.Window.{command_at, side_at, writable}
use Rattle.cable_window.specs.Window.{bit, window_reply, without_interrupt, offset_refusal, after_write, Write, after_writes, writes}
use Rattle.cable_window.specs.Host.{AreWords, any_solves}
use Rattle.cable_window.specs.Host.{Results, results_of, interrupt_cleared, StatusBits, LastSolve}
use Rattle.cable_window.specs.Laws.Fits.{ReplyFits}

-- ---- what every write keeps, every list of writes keeps
pub kept_after : (P : List ℕ → Type 0) → ((s : List ℕ) (o w : ℕ) → P s → P (after_write s o w)) → (s : List ℕ) (l : List Write) → P s → P (after_writes s l)
unfolding after_writes
kept_after P step s [] p = p
kept_after P step s (w ∷ rest) p = kept_after P step (after_write s w.offset w.word) rest (step s w.offset w.word p)

-- ---- the words that a slice holds are words
pub writes_words : (os ws : List ℕ) → ((i : ℕ) → get_or ws i 0 < 2 ^ 32) → AreWords (writes os ws)
writes_words [] ws h = tt
writes_words (o ∷ os) [] h = tt
writes_words (o ∷ os) (w ∷ ws) h = (h 0, writes_words os ws (λ i. h (suc i)))

-- ---- an offset that is refused

-- what a write hands back is 0, or 14 where its offset is not writable
pub refused_writable : (o : ℕ) → ((writable o ≡ true) × (offset_refusal o ≡ 0)) ⊎ ((writable o ≡ false) × (offset_refusal o ≡ 14))
unfolding offset_refusal
refused_writable o = go (writable o)
  where
    go : (b : Bool) → ((b ≡ true) × (◌≡◌ {A = ℕ} (cond b 0 14) 0)) ⊎ ((b ≡ false) × (◌≡◌ {A = ℕ} (cond b 0 14) 14))
    go true = inl (refl, refl)
    go false = inr (refl, refl)

-- where it is 14 the window is as before
pub refused_same : (s : List ℕ) (o w : ℕ) → offset_refusal o ≡ 14 → after_write s o w ≡ s
unfolding offset_refusal after_write
refused_same s o w e =
    by_test (λ t. t ≡ s) (writable o) (λ t. let z : ◌≡◌ {A = ℕ} 0 14 = rw t at e in absurd (omega arith)) (λ _. refl)

-- ---- a command's bits but 0 and 1 do nothing
pub other_bits : (s : List ℕ) (c : ℕ) → after_write s command_at c ≡ after_write s command_at (c % 2 ^ 2)
unfolding after_write
other_bits s c = rw (low, next)
  where
    low : bit 0 (c % 2 ^ 2) ≡ bit 0 c
    low = omega arith

    next : bit 1 (c % 2 ^ 2) ≡ bit 1 c
    next = omega arith

-- ---- a window's side and doubles stand as those of a sheet's quote do up to the time (REQUIREMENTS 11.1), and the reply is that quote's with factor 1
pub sheet_order : (s : List ℕ) → window_reply s
    ≡ implied_black_volatility_discounted (unsigned s side_at) (double s (side_at + price_at)) (double s (side_at + forward_at)) (double s (side_at + strike_at))
    (double s (side_at + time_at)) one
unfolding window_reply double
sheet_order s = sym (factor_one _ _ _ _ _ (of_bits-fits binary64 (hyper s (side_at + price_at))))

-- ---- the status, bit by bit

pub status_bits : (r : Reply) → ReplyFits r → StatusBits (results_of r).status r
status_bits (answer total volatility count) h = omega arith
status_bits (refusal number count) h = omega (arith, h.0)

-- cleared: bit 2 is 0, the bits below it and above it are as before
pub cleared_bits : (s : ℕ) → (bit 2 (without_interrupt s) ≡ 0) × (without_interrupt s % 2 ^ 2 ≡ s % 2 ^ 2) × (without_interrupt s / 2 ^ 3 ≡ s / 2 ^ 3)
cleared_bits s = omega arith

-- ---- clears of results
pub neither : (a b : Bool) → (a || b) ≡ false → (a ≡ false) × (b ≡ false)
neither true b e = absurd (true≢false e)
neither false b e = (refl, e)

pub cleared_twice : (a b : Bool) (r : Results) → interrupt_cleared b (interrupt_cleared a r) ≡ interrupt_cleared (a || b) r
cleared_twice true true r = rw (again r.status)
  where
    again : (n : ℕ) → without_interrupt (without_interrupt n) ≡ without_interrupt n
    again n = omega arith
cleared_twice true false r = refl
cleared_twice false b r = refl

pub after_append : (s : List ℕ) (l m : List Write) → after_writes s (l ++ m) ≡ after_writes (after_writes s l) m
unfolding after_writes
after_append s [] m = refl
after_append s (w ∷ rest) m = after_append (after_write s w.offset w.word) rest m

-- ---- every list of writes has no solve, or a last one
pub none_or_last : (l : List Write) → AreWords l → (any_solves l ≡ false) ⊎ LastSolve l
none_or_last [] a = inl refl
none_or_last (w ∷ rest) a =
    let b = bit 0 w.word in
    go (none_or_last rest a.1) (eqb w.offset command_at) (eqb b 1) (eqb-true w.offset command_at) (eqb-true b 1)
  where
    go : (any_solves rest ≡ false) ⊎ LastSolve rest → (x y : Bool) → (x ≡ true → w.offset ≡ command_at) → (y ≡ true → bit 0 w.word ≡ 1)
        → ((x && y || any_solves rest) ≡ false) ⊎ LastSolve (w ∷ rest)
    go (inr k) x y p q =
        inr
        (record {
          before = w ∷ k.before;
          command = k.command;
          since = k.since;
          parts = ap (λ (m : List Write). w ∷ m) k.parts;
          words = (a.0, k.words);
          solves = k.solves;
          none_since = k.none_since;
        })
    go (inl e) true true p q =
        inr
        (record {
          before = [];
          command = w.word;
          since = rest;
          parts = ap (λ (o : ℕ). record { offset = o; word = w.word } ∷ rest) (p refl);
          words = tt;
          solves = q refl;
          none_since = e;
        })
    go (inl e) true false p q = inl e
    go (inl e) false y p q = inl e
