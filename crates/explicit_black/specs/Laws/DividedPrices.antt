-- A price divided by a factor above 0 (REQUIREMENTS 14.7): its sign; and that what follows the tests is the same for prices scaled by 2 ^ (n + n), also where
-- a quotient is infinite. The same for prices that are exactly 4 ^ n times each other follows in proofs/DividedPrices.antt. Assumes nothing.
use Rattle.std.specs.Prelude.{◌≡◌, ◌||◌, refl, ◌⊎◌, ℕ, ◌+◌, ◌*◌, ◌^◌, ◌≤◌, ◌<◌, Bool, cond, ◌&&◌, ℤ, T, ltb, Float}
use Rattle.std.proofs.Common.{sym, ap, ◌∙◌, subst, inl, inr, le_trans, le_of_eq, zero-mul, mul_comm, mul-pos, mul-le-mul_left, le-mul_of_pos_right, arith, true≢false, ltb→lt, pow_pos}
use Rattle.std.proofs.Math.Bool.{true, false}
use Rattle.std.proofs.lemmas.Bool.{false≢true}
use Rattle.std.specs.Float.{nan, inf, fin, binary64}
use Rattle.std.specs.Float.Ieee.{fits, below, round, div, lt, le, eq, of_bits}
use Rattle.std.specs.Float.Ieee.Fits.{sub-fits, div-fits}
use Rattle.std.specs.Float.Ieee.Bits.{is_true, of_bits-fits}
use Rattle.std.specs.Float.Ieee.Order.{round_mono}
use Rattle.std.specs.Float.Ieee.Scale.{finite}
use Rattle.std.specs.Float.Ieee.Positive.{num, den, den_pos, positive}
use Rattle.arithmetic.specs.Operations.{◌⊖◌, ◌⊗◌, ◌⊘◌, plus_zero, min_positive}
use Rattle.arithmetic.specs.Basic.{is_sign_minus, max, takes_first, is_finite}
use Rattle.arithmetic.specs.Sqrt.{sqrt}
use Rattle.arithmetic.specs.Laws.Times.{Times, num_positive}
use Rattle.arithmetic.specs.Laws.Choices.{in_both}
use Rattle.arithmetic.specs.Laws.Compare.{lt_is, not_le, lt_not_le}
use Rattle.arithmetic.specs.Laws.Quotients.{over_positive}
use Rattle.arithmetic.specs.Laws.Sizes.{round_minus}
use Rattle.arithmetic.specs.Laws.Extremes.{times_zero, max_is, max_times}
use Rattle.arithmetic.specs.Laws.ScaledRatios.{PositiveNormal, normal_positive}
use Rattle.arithmetic.specs.Laws.ScaledProducts.{above_normal, over_ratio}
use Rattle.arithmetic.specs.Laws.Overflow.{overflow_above}
use Rattle.bs_option_price.specs.BsOptionPrice.{negative_abs_log_moneyness}
use Rattle.bs_option_price.specs.Laws.Moneyness.{BoundedRatio}
use Rattle.bs_option_price.specs.Laws.MoneynessBounds.{PositiveValue}
use Rattle.inverse_gaussian.specs.Counted.{Counted, at_once}
use Rattle.explicit_black.specs.Quote.{Outcome, refused}
use Rattle.explicit_black.specs.Price.{AboveOrZero}
use Rattle.explicit_black.specs.Demand.{four_up, four_down, Exactly}
use Rattle.explicit_black.specs.Laws.Tests.{from_price_is}
use Rattle.explicit_black.specs.Laws.ZeroPrice.{IsZero, round_is_zero, zero_not_below}
use Rattle.explicit_black.specs.Laws.Price.{intrinsic_times}
use Rattle.explicit_black.specs.Laws.Demand.{after_tests, Related, related_times, vanish}
use Rattle.explicit_black.specs.Laws.Demand.{zero_times, clear_or_zero, ComparableValues}
use Rattle.explicit_black.specs.Laws.Discount.{zero_finite, infinite_figures}

-- ---- a price over a factor
pub dividend_finite : (p d : Float) → T (finite (p ⊘ d)) → T (finite p)
unfolding div
dividend_finite nan d h = absurd h
dividend_finite (inf s) nan h = absurd h
dividend_finite (inf s) (inf t) h = absurd h
dividend_finite (inf s) (fin t n e) h = absurd h
dividend_finite (fin s m e) d h = tt

at_least_zero : (v : Float) → T (finite v) → (is_sign_minus v ≡ false) ⊎ (num v ≡ 0) → T (le plus_zero v)
unfolding of_bits
at_least_zero v p (inr z) = subst T (sym (zero_not_below v (record { bounded = p; vanishes = z }))) tt
at_least_zero v p (inl s) = go (le plus_zero v) refl
  where
    not_under : (a b c : ℕ) → b ≡ 0 * c → T (ltb a b) → ⊥
    not_under a b c e t = let l = ltb→lt a b t in omega (arith, zero-mul c)

    below_zero : lt v plus_zero ≡ true → ⊥
    below_zero l =
        let b : ltb (num v * 1) (0 * den v) ≡ true =
        ap (λ (z : Bool). below z (num v * 1) false (0 * den v)) (sym s) ∙ sym (lt_is v plus_zero p tt) ∙ l in
        not_under (num v * 1) (0 * den v) (den v) refl (subst T (sym b) tt)

    go : (b : Bool) → le plus_zero v ≡ b → T (le plus_zero v)
    go true e = subst T (sym e) tt
    go false e = absurd (below_zero (not_le plus_zero v tt p e))

module _ (p d : Float) (P : T (finite p)) (D : T (positive d)) where
  pub zero_quotient : num p ≡ 0 → IsZero (p ⊘ d)
  zero_quotient z =
      subst IsZero (sym (over_positive p d P D))
      (round_is_zero (is_sign_minus p) (num p * den d) (num d * den p) (mul-pos (num_positive d D) (den_pos p)) (rw z (zero-mul (den d))))

  quotient_not_negative : T (le plus_zero p) → T (finite (p ⊘ d)) → T (le plus_zero (p ⊘ d))
  quotient_not_negative h q = at_least_zero (p ⊘ d) q (go (clear_or_zero p P h))
    where
      go : (is_sign_minus p ≡ false) ⊎ (num p ≡ 0) → (is_sign_minus (p ⊘ d) ≡ false) ⊎ (num (p ⊘ d) ≡ 0)
      go (inl c) = inl (ap is_sign_minus (over_positive p d P D) ∙ round_minus (is_sign_minus p) _ _ ∙ c)
      go (inr z) = inr (zero_quotient z).vanishes

-- ---- zeros are exactly 4 ^ n times each other
pub zeros_exactly : (n : ℤ) (x y : Float) → T (finite x) → T (finite y) → num x ≡ 0 → num y ≡ 0 → Exactly n x y
zeros_exactly n x y p q z z' = record { finite_x = p; finite_y = q; fraction = rw (z, z') (zeros (den x) (den y) (four_down n) (four_up n)); signs = inl z }
  where
    zeros : (a b c e : ℕ) → 0 * a * c ≡ 0 * b * e
    zeros a b c e = rw (zero-mul a, zero-mul b, zero-mul c, zero-mul e)

-- ---- of two such quotients the larger may be infinite: then the smaller is above its bound, and above the intrinsic value, and both are refused alike
above_infinite : (v : Float) → is_finite v ≡ false → T (lt min_positive v) → v ≡ inf false
unfolding lt of_bits
above_infinite nan e l = absurd l
above_infinite (inf true) e l = absurd l
above_infinite (inf false) e l = refl
above_infinite (fin s m x) e l = absurd (true≢false e)

zero_is_finite : (v : Float) → T (eq v plus_zero) → is_finite v ≡ true
unfolding eq of_bits
zero_is_finite nan e = absurd e
zero_is_finite (inf s) e = absurd e
zero_is_finite (fin s m x) e = refl

infinity_not_under : (v : Float) → is_finite v ≡ true → T (le (inf false) v) → ⊥
unfolding le lt eq
infinity_not_under nan e l = l
infinity_not_under (inf s) e l = false≢true e
infinity_not_under (fin s m x) e l = l

above_tests : (x y : Float) → T (finite x) → T (finite y) → lt x y ≡ true → (le x y ≡ true) × (eq y x ≡ false)
above_tests x y p q l = (unfold le in rw l, go (lt y x) (eq y x) (unfold le in lt_not_le x y p q l))
  where
    go : (a b : Bool) → (a || b) ≡ false → b ≡ false
    go true b e = absurd (true≢false e)
    go false b e = e

above_figures : (call : Bool) (q f k t : Float) →
    let b = cond call f k in
    let m = max (cond call (f ⊖ k) (k ⊖ f)) plus_zero in
    T (finite q) → T (finite b) → T (finite m) → lt b q ≡ true → lt m q ≡ true → after_tests call q f k t ≡ at_once (refused (cond (eq t plus_zero) 5 6))
above_figures call q f k t Q B M l l' =
    let i = above_tests (cond call f k) q B Q l in
    let j = above_tests (max (cond call (f ⊖ k) (k ⊖ f)) plus_zero) q M Q l' in
    from_price_is q (cond call (f ⊖ k) (k ⊖ f)) (cond call f k) (sqrt f ⊗ sqrt k) (negative_abs_log_moneyness f k) t ∙ rw (i.0, i.1, j.1) (go (eq t plus_zero))
  where
    go : (z : Bool) → cond z (at_once (refused 5)) (at_once (refused 6)) ≡ at_once (refused (cond z 5 6))
    go true = refl
    go false = refl

module _ (n : ℕ) (p p' d : Float) (D : T (positive d)) (hp : Times (n + n) p p') (s : is_sign_minus p ≡ false) where
  abbrev a : ℕ
  a = num p * den d

  abbrev c : ℕ
  c = num d * den p

  abbrev a' : ℕ
  a' = num p' * den d

  abbrev c' : ℕ
  c' = num d * den p'

  C : 0 < c
  C = mul-pos (num_positive d D) (den_pos p)

  C' : 0 < c'
  C' = mul-pos (num_positive d D) (den_pos p')

  ratio : a' * c ≡ a * (2 ^ (n + n) * c')
  ratio = over_ratio (num p) (den p) (num p') (den p') (num d) (den d) (2 ^ (n + n)) hp.value

  is : p ⊘ d ≡ round binary64 false a c
  is = over_positive p d hp.finite_l D ∙ rw s

  is' : p' ⊘ d ≡ round binary64 false a' c'
  is' = over_positive p' d hp.finite_r D ∙ rw (hp.sign, s)

  larger_infinite : is_finite (p ⊘ d) ≡ false → T (lt min_positive (p ⊘ d)) → is_finite (p' ⊘ d) ≡ true → ⊥
  larger_infinite e l e' =
      let more : a * c' ≤ a' * c =
      le_trans (mul-le-mul_left a (le_trans (le-mul_of_pos_right c' (pow_pos (n + n))) (le_of_eq (mul_comm c' (2 ^ (n + n)))))) (le_of_eq (sym ratio)) in
      infinity_not_under (p' ⊘ d) e'
      (rw (is', ← above_infinite (p ⊘ d) e l, is) (round_mono binary64 a c a' c' C C' more))

  smaller_above : T (finite (p ⊘ d)) → is_finite (p' ⊘ d) ≡ false → T (lt min_positive (p ⊘ d)) → (y y' : Float) → T (fits binary64 y')
      → Times (n + n) y y' → lt y (p ⊘ d) ≡ true
  smaller_above q e l y y' F t =
      rw is
      (overflow_above (n + n) a c a' c' C C' ratio (above_normal false a c C (rw is at q) (rw is at l)) (rw is at q)
      (λ u. true≢false (sym (is_true (finite (p' ⊘ d)) (rw is' u)) ∙ e)) y y' F t)

-- a price that is infinite and above 0
abbrev refused_at : Float → Counted Outcome
refused_at t = at_once (refused (cond (eq t plus_zero) 5 6))

infinite_refused : (call : Bool) (q f k t : Float) → BoundedRatio f k → is_finite q ≡ false → T (lt min_positive q) → after_tests call q f k t ≡ refused_at t
infinite_refused call q f k t h e l =
    ap (λ (v : Float). after_tests call v f k t) (above_infinite q e l) ∙ infinite_figures call f k t (value f h.forward) (value k h.strike) false
  where
    value : (x : Float) → PositiveNormal x → PositiveValue x
    value x o = record { above = normal_positive x o; held = o.held }

-- forward, strike and price of the second quote are 2 ^ (n + n) times those of the first
module _ (n : ℕ) (p f k t p' f' k' t' d : Float) (D : T (positive d)) (h : BoundedRatio f k) (h' : BoundedRatio f' k')
    (hf : Times (n + n) f f') (hk : Times (n + n) k k') (call : Bool) where
  bound_times : (call : Bool) → Times (n + n) (cond call f k) (cond call f' k')
  bound_times true = hf
  bound_times false = hk

  greatest_times : (call : Bool) → Times (n + n) (max (cond call (f ⊖ k) (k ⊖ f)) plus_zero) (max (cond call (f' ⊖ k') (k' ⊖ f')) plus_zero)
  greatest_times true = max_times (n + n) _ plus_zero _ plus_zero (intrinsic_times n f k f' k' h h' hf hk 0) (times_zero (n + n))
  greatest_times false = max_times (n + n) _ plus_zero _ plus_zero (intrinsic_times n f k f' k' h h' hf hk 1) (times_zero (n + n))

  greatest_fits : T (fits binary64 (max (cond call (f' ⊖ k') (k' ⊖ f')) plus_zero))
  greatest_fits =
      let i = cond call (f' ⊖ k') (k' ⊖ f') in
      let held = in_both (λ (z : Float). T (fits binary64 z)) call (sub-fits binary64 f' k') (sub-fits binary64 k' f') in
      subst (λ (z : Float). T (fits binary64 z)) (sym (max_is i plus_zero (intrinsic_finite call) zero_finite))
      (in_both (λ (z : Float). T (fits binary64 z)) (takes_first i plus_zero) held (of_bits-fits binary64 0))
    where
      intrinsic_finite : (call : Bool) → T (finite (cond call (f' ⊖ k') (k' ⊖ f')))
      intrinsic_finite true = (intrinsic_times n f k f' k' h h' hf hk 0).finite_r
      intrinsic_finite false = (intrinsic_times n f k f' k' h h' hf hk 1).finite_r

  smaller_refused : Times (n + n) p p' → is_sign_minus p ≡ false → T (lt min_positive (p ⊘ d)) → T (finite (p ⊘ d)) → is_finite (p' ⊘ d) ≡ false
      → after_tests call (p ⊘ d) f k t ≡ refused_at t
  smaller_refused hp s l q e =
      let b = bound_times call in
      let m = greatest_times call in
      let held = in_both (λ (z : Float). T (fits binary64 z)) call h'.forward.held h'.strike.held in
      above_figures call (p ⊘ d) f k t q b.finite_l m.finite_l (smaller_above n p p' d D hp s q e l _ _ held b)
      (smaller_above n p p' d D hp s q e l _ _ greatest_fits m)

  -- a price of which one quotient is infinite is not 0
  not_zero : T (finite p) → T (finite p') → T (le plus_zero p) → Related (n + n) p p' → (is_finite (p ⊘ d) && is_finite (p' ⊘ d)) ≡ false
      → Times (n + n) p p' × (is_sign_minus p ≡ false)
  not_zero P P' o r e = go r
    where
      zeros : num p ≡ 0 → num p' ≡ 0 → ⊥
      zeros z z' =
          let q = is_true (is_finite (p ⊘ d)) (zero_quotient p d P D z).bounded in
          let q' = is_true (is_finite (p' ⊘ d)) (zero_quotient p' d P' D z').bounded in
          true≢false (rw (q, q') at e)

      go : Related (n + n) p p' → Times (n + n) p p' × (is_sign_minus p ≡ false)
      go (vanish z z') = absurd (zeros z z')
      go (related_times g) = elim (clear_or_zero p P o) [ inl s ↦ (g, s) | inr z ↦ absurd (zeros z (zero_times (n + n) p p' g.value z)) ]

  abbrev FiguresAlike : Type 0
  FiguresAlike = after_tests call (p' ⊘ d) f' k' t' ≡ after_tests call (p ⊘ d) f k t

  pub scaled_up_figures : T (finite p) → T (finite p') → T (le plus_zero p) → Related (n + n) p p' → eq t' plus_zero ≡ eq t plus_zero
      → AboveOrZero (p ⊘ d) (p' ⊘ d) → (T (finite (p ⊘ d)) → T (finite (p' ⊘ d)) → FiguresAlike) → FiguresAlike
  scaled_up_figures P P' o r time (inr (z, z')) exact = exact (subst T (sym (zero_is_finite _ z)) tt) (subst T (sym (zero_is_finite _ z')) tt)
  scaled_up_figures P P' o r time (inl (l, l')) exact = go (is_finite (p ⊘ d)) (is_finite (p' ⊘ d)) refl refl
    where
      later : refused_at t' ≡ refused_at t
      later = ap (λ (z : Bool). at_once (refused (cond z 5 6))) time

      go : (u u' : Bool) → is_finite (p ⊘ d) ≡ u → is_finite (p' ⊘ d) ≡ u' → FiguresAlike
      go true true e e' = exact (subst T (sym e) tt) (subst T (sym e') tt)
      go true false e e' =
          let (hp, s) = not_zero P P' o r (rw (e, e')) in
          infinite_refused call (p' ⊘ d) f' k' t' h' e' l' ∙ later ∙ sym (smaller_refused hp s l (subst T (sym e) tt) e')
      go false true e e' = let (hp, s) = not_zero P P' o r (rw e) in absurd (larger_infinite n p p' d D hp s e l e')
      go false false e e' = infinite_refused call (p' ⊘ d) f' k' t' h' e' l' ∙ later ∙ sym (infinite_refused call (p ⊘ d) f k t h e l)

-- ---- the values that follow the tests
pub divided_values : (p f k d : Float) → T (positive d) → T (finite p) → T (le plus_zero p) → T (finite (p ⊘ d)) → BoundedRatio f k
    → ComparableValues (p ⊘ d) f k
divided_values p f k d D P o q h = record { held = div-fits binary64 p d; bounded = q; not_negative = quotient_not_negative p d P D o q; pair = h }
