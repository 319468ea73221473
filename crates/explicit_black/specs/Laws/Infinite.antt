-- WHICH ANSWERS ARE INFINITE (REQUIREMENTS 14.5): a total is infinite only at a price that is its bound, or whose normalised time value is b_max, and
-- every other total is 2 ^ 539 at most. The volatility of an infinite total is infinite, and at a time of 0, or of 2 ^ -966 and more, that of no other
-- is. Assumes nothing.
use Rattle.std.specs.Prelude.{◌≡◌, ◌⊎◌, Bool, true, eqb, Float}
use Rattle.std.proofs.Math.Path.{refl, sym, ap, subst}
use Rattle.std.proofs.Common.{◌∙◌, mul-pos, mul-le-mul_right, le_of_mul-le-mul_right, lt_of_mul-lt-mul_right, arith, true≢false, ltb-true, lt-ltb, eqb-true, lit≤, pow_pos}
use Rattle.std.proofs.Math.Logic.{inl, inr}
use Prim.Native.Nat.{ℕ, zero, suc, ◌*◌, ◌^◌, ◌≤◌, ◌<◌}
use Rattle.std.proofs.Math.Bool.{false, false≢true}
use Rattle.std.proofs.Math.Dec.{T, eqb-suc-zero}
use Rattle.std.specs.Float.{nan, inf, fin}
use Rattle.std.specs.Float.Ieee.{binary64, neg, sub, mul, div, lt, le, eq, level, is_nan, fits, of_bits}
use Rattle.std.specs.Float.Ieee.Fits.{and_l, div-fits}
use Rattle.std.specs.Float.Ieee.Bits.{is_true}
use Rattle.std.specs.Float.Ieee.Scale.{finite}
use Rattle.std.specs.Float.Ieee.Positive.{num, den, positive, positive-finite}
use Rattle.arithmetic.specs.Operations.{◌⊖◌, ◌⊗◌, ◌⊘◌, bits, plus_zero, one, two, min_positive, infinity, sqrt2}
use Rattle.arithmetic.specs.Basic.{is_sign_minus, abs, max, min, is_finite, is_infinite}
use Rattle.arithmetic.specs.Sqrt.{sqrt}
use Rattle.arithmetic.specs.Exp.{exp}
use Rattle.arithmetic.specs.Ln.{ln, ln1p}
use Rattle.arithmetic.specs.Laws.Choices.{in_both, by_test, never}
use Rattle.arithmetic.specs.Laws.Compare.{lt_is, eq_is, not_le, not_le_zero, lt_positive}
use Rattle.arithmetic.specs.Laws.Times.{positive_sign, num_positive}
use Rattle.arithmetic.specs.Laws.Representable.{representable}
use Rattle.arithmetic.specs.Laws.Bounds.{le_cross}
use Rattle.arithmetic.specs.Laws.SqrtBounds.{sqrt_positive}
use Rattle.arithmetic.specs.Laws.Quotients.{at_least_no_nan}
use Rattle.arithmetic.specs.Laws.PowerBounds.{Small, small_widen, small_mul, small_div, zero_small, small_of}
use Rattle.arithmetic.specs.Laws.LnBounds.{positive_tests}
use Rattle.arithmetic.specs.Laws.RootBounds.{root_between}
use Rattle.arithmetic.specs.Laws.UnitInterval.{one_parts}
use Rattle.special_function.specs.Polynomial.{nested}
use Rattle.special_function.specs.Erfinv.{erfinv}
use Rattle.special_function.specs.NormalDistribution.{inverse_norm_cdf_for_low_probabilities}
use Rattle.special_function.specs.Laws.ErfinvBounds.{NanOr, erfinv_number}
use Rattle.bs_option_price.specs.BsOptionPrice.{negative_abs_log_moneyness}
use Rattle.inverse_gaussian.specs.Counted.{Option, some, none, Counted, at_once}
use Rattle.inverse_gaussian.specs.Curves.{finite_positive}
use Rattle.inverse_gaussian.specs.Quantile.{inverse_gaussian_quantile}
use Rattle.inverse_gaussian.specs.Survival.{inverse_gaussian_quantile_from_survival}
use Rattle.explicit_black.specs.Quote.{Outcome, total, refused, implied_normalised_volatility_atm, at_the_money, total_at}
use Rattle.explicit_black.specs.Quote.{from_call_price, from_normalised_price, from_time_value, first_refusal, intrinsic_value, price_bound}
use Rattle.explicit_black.specs.Quote.{normalised_time_value, from_price, from_quote, answer, reply_of, volatility, volatility_over}
use Rattle.explicit_black.specs.Quote.{implied_black_volatility_input}
use Rattle.explicit_black.specs.Discount.{implied_black_volatility_discounted}
use Rattle.explicit_black.specs.Guards.{survival_threshold, b_max_of}
use Rattle.explicit_black.specs.Infinite.{AtBound, AtBMax, AtBoundOrBMax, alike_from}
use Rattle.explicit_black.specs.Laws.Tests.{from_price_is}
use Rattle.explicit_black.specs.Laws.Quote.{Domain, passed, domain_passes, time_positive}
use Rattle.explicit_black.specs.Laws.Discount.{DiscountedDomain, divided_domain, divided_reply, divided_answer}
use Rattle.explicit_black.specs.Laws.ZeroPrice.{or_right}
use Rattle.inverse_gaussian.specs.Laws.Roots.{finite_positive_positive, quantile_fits, from_survival_fits}
use Rattle.explicit_black.specs.Laws.Guards.{NotTaken, quotient_not_taken, b_max_small, b_max_nan, not_over}

-- ---- an outcome's total is 2 ^ 539 at most, unless a condition holds and it is infinity
abbrev pub BoundedUnless : Type 0 → Outcome → Type 0
BoundedUnless at (total v) = (at × (v ≡ infinity)) ⊎ Small 539 v
BoundedUnless at (refused m) = Unit

-- ---- at the root x of a search
value_least : (x : Float) → T (positive x) → T (fits binary64 x) → den x ≤ num x * 2 ^ 1074
value_least x p F =
    let r = representable binary64 x F (positive-finite x p) in
    go (num x) (den x) (r.digits * 2 ^ r.place) (2 ^ 1074) (mul-pos (num_positive x p) (pow_pos 1074)) r.exact
  where
    go : (n d g u : ℕ) → 0 < n * u → n * u ≡ g * d → d ≤ n * u
    go n d zero u N e = absurd (omega arith)
    go n d (suc g) u N e = omega arith

two_small : Small 1 two
unfolding of_bits
two_small = small_of 1 two tt

over_root_small : (x : Float) → T (positive x) → T (fits binary64 x) → Small 539 (two ⊘ sqrt x)
over_root_small x p F = small_div two_small (root_between x p F 537 (value_least x p F)) (lit≤ tt)

-- ---- at the money: the price is above 0 and below 1
money_small : (p : Float) → T (positive p) → T (fits binary64 p) → lt p one ≡ true → is_nan (implied_normalised_volatility_atm p) ≡ false
    → Small 539 (implied_normalised_volatility_atm p)
unfolding implied_normalised_volatility_atm
money_small p P F L n = go (erfinv p) (erfinv_number p P F L) n
  where
    factor : Small 2 (two ⊗ sqrt2)
    factor = unfold of_bits mul in small_of 2 (two ⊗ sqrt2) tt

    go : (v : Float) → NanOr 78 v → is_nan (two ⊗ sqrt2 ⊗ v) ≡ false → Small 539 (two ⊗ sqrt2 ⊗ v)
    go v (inl e) n = unfold is_nan mul of_bits in absurd (true≢false (sym (ap (λ (z : Float). is_nan (two ⊗ sqrt2 ⊗ z)) e) ∙ n))
    go v (inr h) n = small_widen 539 (small_mul factor h (lit≤ tt)) (lit≤ tt)

-- ---- the outcomes
module _ (at : Type 0) where
  abbrev Bounded : Counted Outcome → Type 0
  Bounded c = BoundedUnless at c.result

  at_root_lem : (t : Option Float) → ((x : Float) → t ≡ some x → T (fits binary64 x)) → BoundedUnless at (total_at t)
  unfolding total_at
  at_root_lem none F = tt
  at_root_lem (some x) F =
      by_test (BoundedUnless at) (finite_positive x) (λ e. inr (over_root_small x (finite_positive_positive x e) (F x refl))) (λ e. tt)

  call_price_bounded : (q mu : Float) → NotTaken q → T (fits binary64 mu) → Bounded (from_call_price q mu)
  unfolding from_call_price
  call_price_bounded q mu N F =
      by_test Bounded (lt q survival_threshold)
      (λ e. at_root_lem (inverse_gaussian_quantile_from_survival q mu).result (λ x. from_survival_fits q mu x F))
      (λ e. let n = N e in rw (n.0, n.1) (at_root_lem (inverse_gaussian_quantile (one ⊖ q) mu).result (λ x. quantile_fits (one ⊖ q) mu x F)))

  money_bounded : (p : Float) → T (positive p) → T (fits binary64 p) → lt p one ≡ true → BoundedUnless at (at_the_money p)
  unfolding at_the_money
  money_bounded p P F L =
      let v = implied_normalised_volatility_atm p in
      by_test (BoundedUnless at) (le plus_zero v) (λ e. inr (money_small p P F L (at_least_no_nan plus_zero v e))) (λ e. tt)

-- ---- a price that passes tests 7 and 8 at the money is below 1
at_money_number : (x : Float) → eq (abs x) plus_zero ≡ true → is_nan x ≡ false
unfolding abs eq is_nan
at_money_number nan e = absurd (false≢true e)
at_money_number (inf s) e = refl
at_money_number (fin s m d) e = refl

below_bound : (x p : Float) → T (finite p) → eq (abs x) plus_zero ≡ true → le p plus_zero ≡ false → le (b_max_of x) p ≡ false
    → T (positive p) × (lt p one ≡ true)
below_bound x p q e h g =
    let b = b_max_of x in
    let B = b_max_small x (at_money_number x e) in
    let P : T (positive p) = not_le_zero p q h in
    let less : lt p b ≡ true = not_le b p B.is_finite_lem q g in
    let Q : T (positive b) = lt_positive p b q (positive_sign p P) B.is_finite_lem less in
    let l : num p * den b < num b * den p =
    ltb-true (num p * den b) (num b * den p) (sym (lt_is p b q B.is_finite_lem ∙ rw (positive_sign p P, positive_sign b Q)) ∙ less) in (
      P,
      lt_is p one q one_parts.3 ∙ rw (positive_sign p P, one_parts.2)
          (lt-ltb (num p * den one) (num one * den p) (rw (one_parts.0, one_parts.1) (under (num p) (den p) (num b) (den b) l B.bound))),
    )
  where
    under : (n d a b : ℕ) → n * b < a * d → a ≤ 1 * b → n * 1 < 1 * d
    under n d a b l h =
        let g : a * d ≤ 1 * b * d = mul-le-mul_right d h in
        let k : n * b < d * b = omega arith in
        let i : n < d = lt_of_mul-lt-mul_right b k in
        omega arith

-- ---- a normalised price
money_at_nan : at_the_money nan ≡ refused 9
unfolding at_the_money implied_normalised_volatility_atm erfinv inverse_norm_cdf_for_low_probabilities nested ln sqrt abs neg mul le of_bits
money_at_nan = refl

normalised_bounded : (x p : Float) → T (fits binary64 p) → BoundedUnless (eq p (b_max_of x) ≡ true) (from_normalised_price x p).result
unfolding from_normalised_price
normalised_bounded x p F =
    by_test (Bounded at) (le p plus_zero) (λ h. in_both (BoundedUnless at) (eq p plus_zero) (inr (zero_small 539)) tt)
    (λ h. by_test (Bounded at) (le b p) (λ g. by_test (BoundedUnless at) (eq p b) (λ e. inl (e, refl)) (λ e. tt))
    (λ g. by_test (Bounded at) (eq (abs x) plus_zero) (λ e. money p F e h g)
    (λ e. call_price_bounded at (p ⊘ b) (two ⊘ abs x) (quotient_not_taken x p F h g) (div-fits binary64 two (abs x)))))
  where
    b : Float
    b = b_max_of x

    at : Type 0
    at = eq p b ≡ true

    money : (p : Float) → T (fits binary64 p) → eq (abs x) plus_zero ≡ true → le p plus_zero ≡ false → le b p ≡ false
        → BoundedUnless at (at_the_money p)
    money nan F e h g = rw money_at_nan tt
    money (inf true) F e h g = unfold le lt of_bits in absurd (true≢false h)
    money (inf false) F e h g = absurd (not_over b (b_max_small x (at_money_number x e)).is_finite_lem g)
    money (fin s m d) F e h g = let q = below_bound x (fin s m d) tt e h g in money_bounded at (fin s m d) q.0 F q.1

time_value_bounded : (x v : Float) → T (fits binary64 v) → BoundedUnless (eq v (b_max_of x) ≡ true) (from_time_value x v).result
unfolding from_time_value
time_value_bounded x v F =
    in_both (Bounded at) (le v min_positive) (in_both (BoundedUnless at) (le plus_zero v) (inr (zero_small 539)) tt) (normalised_bounded x v F)
  where
    at : Type 0
    at = eq v (b_max_of x) ≡ true

unless : (a b : Type 0) (r : Outcome) → (a → b) → BoundedUnless a r → BoundedUnless b r
unless a b (refused m) f h = tt
unless a b (total v) f (inl h) = inl (f h.0, h.1)
unless a b (total v) f (inr h) = inr h

-- ---- a quote
module _ (side : ℕ) (p f k t : Float) where
  abbrev at : Type 0
  at = AtBoundOrBMax side p f k t

  quote_bounded : BoundedUnless at (from_quote side p f k t).result
  unfolding from_quote
  quote_bounded =
      let d = intrinsic_value side f k in
      let b = price_bound side f k in
      let r = sqrt f ⊗ sqrt k in
      let x = negative_abs_log_moneyness f k in
      let v = normalised_time_value p d r in
      in_both (Bounded at) (eqb (first_refusal side p f k t) 0)
      (rw (from_price_is p d b r x t)
      (by_test (Bounded at) (eq t plus_zero) (λ z. in_both (BoundedUnless at) (eq p _) (inr (zero_small 539)) tt)
      (λ z. by_test (Bounded at) (le b p) (λ l. by_test (BoundedUnless at) (eq p b) (λ e. inl ((z, inl e), refl)) (λ e. tt))
      (λ l. unless _ at (from_time_value x v).result (λ e. (z, inr e)) (time_value_bounded x v (div-fits binary64 _ r)))))) tt

-- ---- volatilities
infinity_over : (r : Float) → T (positive r) → infinity ⊘ r ≡ infinity
unfolding div of_bits
infinity_over nan p = absurd p
infinity_over (inf s) p = absurd p
infinity_over (fin true m e) p = absurd p
infinity_over (fin false m e) p = refl

alike_from_parts : (is_sign_minus alike_from ≡ false) × T (finite alike_from) × (0 < num alike_from)
    × (num alike_from * 2 ^ 966 ≡ den alike_from)
unfolding of_bits
alike_from_parts = (refl, tt, lit≤ tt, refl)

small_over : (t v : Float) → T (positive t) → T (fits binary64 t) → T (le alike_from t) → Small 539 v → Small 1023 (v ⊘ sqrt t)
small_over t v P F l h =
    let (s, q, a, e) = alike_from_parts in
    small_div h
    (root_between t P F 483
    (go (num alike_from) (num t) (den t) (2 ^ 966) (den alike_from) a e (le_cross alike_from t q (positive-finite t P) s (positive_sign t P) l)))
    (lit≤ tt)
  where
    go : (a n d u b : ℕ) → 0 < a → a * u ≡ b → a * d ≤ n * b → d ≤ n * u
    go a n d u b A e h =
        let f : n * (a * u) ≡ n * b = ap (λ (z : ℕ). n * z) e in
        let g : d * a ≤ n * u * a = omega arith in
        le_of_mul-le-mul_right g A

-- ---- an answer: where its total comes from, and the volatility of that
record From (side : ℕ) (p f k t v w : Float) : Type 0 where
  outcome : (from_quote side p f k t).result ≡ total v
  quotient : w ≡ volatility t v

module _ (side : ℕ) (p f k t v w : Float) (count : ℕ) (e : implied_black_volatility_input side p f k t ≡ answer v w count) where
  from : From side p f k t v w
  unfolding implied_black_volatility_input
  from = go (from_quote side p f k t).result refl e
    where
      go : (r : Outcome) → (from_quote side p f k t).result ≡ r → reply_of t (sqrt t) r (from_quote side p f k t).count ≡ answer v w count
          → From side p f k t v w
      go (total u) q h =
          let i : u ≡ v = cc in
          let j : volatility t u ≡ w = cc in
          record { outcome = q ∙ ap total i; quotient = sym j ∙ ap (volatility t) i }
      go (refused m) q h = never (cc)

  bounded : BoundedUnless (AtBoundOrBMax side p f k t) (total v)
  bounded = subst (BoundedUnless (AtBoundOrBMax side p f k t)) from.outcome (quote_bounded side p f k t)

  first_passes : first_refusal side p f k t ≡ 0
  unfolding from_quote
  first_passes = go (first_refusal side p f k t) refl from.outcome
    where
      go : (n : ℕ) → first_refusal side p f k t ≡ n → (from_quote side p f k t).result ≡ total v → n ≡ 0
      go zero q h = refl
      go (suc n) q h = let i : refused (suc n) ≡ total v = rw (q, eqb-suc-zero n) at h in never (cc)

  time_above : eq t plus_zero ≡ false → T (positive t)
  time_above z = let q = passed side p f k t first_passes in time_positive t q.time_finite q.time_not_below z

  infinite_over : AtBoundOrBMax side p f k t → v ≡ infinity → T (fits binary64 t) → w ≡ infinity
  unfolding volatility_over
  infinite_over a i F =
      from.quotient ∙ rw (i, a.0) (infinity_over (sqrt t) (sqrt_positive t (time_above a.0) F))

  finite_over : (eq t plus_zero ≡ true) ⊎ T (le alike_from t) → Small 539 v → T (fits binary64 t) → T (finite w)
  unfolding volatility_over
  finite_over c h F =
      subst (λ (z : Float). T (finite z)) (sym from.quotient)
      (by_test (λ (z : Float). T (finite z)) (eq t plus_zero) (λ z. (zero_small 0).is_finite_lem)
      (λ z. (small_over t v (time_above z) F (late c z) h).is_finite_lem))
    where
      late : (eq t plus_zero ≡ true) ⊎ T (le alike_from t) → eq t plus_zero ≡ false → T (le alike_from t)
      late (inl a) z = absurd (true≢false (sym a ∙ z))
      late (inr l) z = l

-- ---- which floats are infinite
finite_not : (x : Float) → T (finite x) → is_infinite x ≡ false
finite_not x h = rw (is_true (finite x) h) refl

infinity_infinite : is_infinite infinity ≡ true
unfolding of_bits is_nan
infinity_infinite = refl

-- ---- WHICH ANSWERS ARE INFINITE
module _ (side : ℕ) (p f k t v w : Float) (count : ℕ) (F : T (fits binary64 t)) (e : implied_black_volatility_input side p f k t ≡ answer v w count) where
  -- an infinite total comes of a price at its limit, and its volatility is infinite
  pub infinite_total : is_infinite v ≡ true → AtBoundOrBMax side p f k t × (v ≡ infinity) × (w ≡ infinity)
  infinite_total h = elim (bounded side p f k t v w count e) [
    | inl a ↦ (a.0, a.1, infinite_over side p f k t v w count e a.0 a.1 F)
    | inr s ↦ absurd (true≢false (sym h ∙ finite_not v s.is_finite_lem))
  ]

  -- a finite total is 2 ^ 539 at most
  pub finite_total : is_infinite v ≡ false → Small 539 v
  finite_total h = elim (bounded side p f k t v w count e) [
    | inl a ↦ absurd (true≢false (sym infinity_infinite ∙ ap is_infinite (sym a.1) ∙ h))
    | inr s ↦ s
  ]

  -- the volatility is infinite where the total is, at time 0 and from 2 ^ -966 on
  pub infinite_alike : (eq t plus_zero ≡ true) ⊎ T (le alike_from t) → is_infinite w ≡ is_infinite v
  infinite_alike c = elim (bounded side p f k t v w count e) [
    | inl a ↦ ap is_infinite (infinite_over side p f k t v w count e a.0 a.1 F ∙ sym a.1)
    | inr s ↦ finite_not w (finite_over side p f k t v w count e c s F) ∙ sym (finite_not v s.is_finite_lem)
  ]

-- ---- OF A QUOTE WITH A FACTOR the same holds with the divided price in the price's place
module _ (side : ℕ) (p f k t d v w : Float) (count : ℕ) (F : T (fits binary64 f)) (K : T (fits binary64 k)) (M : T (fits binary64 t))
    (e : implied_black_volatility_discounted side p f k t d ≡ answer v w count) where
  divided : implied_black_volatility_input side (p ⊘ d) f k t ≡ answer v w count
  divided = divided_answer side p f k t d F K v w count e

  pub discounted_infinite_total : is_infinite v ≡ true → AtBoundOrBMax side (p ⊘ d) f k t × (v ≡ infinity) × (w ≡ infinity)
  discounted_infinite_total = infinite_total side (p ⊘ d) f k t v w count M divided

  pub discounted_finite_total : is_infinite v ≡ false → Small 539 v
  discounted_finite_total = finite_total side (p ⊘ d) f k t v w count M divided

  pub discounted_infinite_alike : (eq t plus_zero ≡ true) ⊎ T (le alike_from t) → is_infinite w ≡ is_infinite v
  discounted_infinite_alike = infinite_alike side (p ⊘ d) f k t v w count M divided

-- ---- A PRICE AT ITS BOUND, at a time above 0, is answered with infinity
level_swap : (s t : Bool) (a b : ℕ) → level s a t b ≡ true → level t b s a ≡ true
level_swap s t a b h =
    let i : a ≡ b = eqb-true a b (is_true (eqb a b) (and_l (eqb a b) _ (subst T (sym h) tt))) in
    subst (λ (z : ℕ). level t z s a ≡ true) i (swap s t a (subst (λ (z : ℕ). level s a t z ≡ true) (sym i) h))
  where
    swap : (s t : Bool) (a : ℕ) → level s a t a ≡ true → level t a s a ≡ true
    swap true true a h = h
    swap true false a h = h
    swap false true a h = h
    swap false false a h = h

at_least_bound : (p b : Float) → T (finite p) → T (finite b) → eq p b ≡ true → le b p ≡ true
unfolding le
at_least_bound p b P B e =
    or_right (lt b p) (eq b p)
    (eq_is b p B P ∙ level_swap (is_sign_minus p) (is_sign_minus b) (num p * den b) (num b * den p) (sym (eq_is p b P B) ∙ e))

infinity_over_root : {side : ℕ} {p f k : Float} (t : Float) → Domain side p f k t → T (fits binary64 t) → eq t plus_zero ≡ false
    → infinity ⊘ sqrt t ≡ infinity
infinity_over_root t D F z = infinity_over (sqrt t) (sqrt_positive t (time_positive t D.time_finite D.time_not_below z) F)

pub at_bound : (side : ℕ) (p f k t : Float) → Domain side p f k t → T (fits binary64 t)
    → eq t plus_zero ≡ false → AtBound side p f k → implied_black_volatility_input side p f k t ≡ answer infinity infinity 0
unfolding implied_black_volatility_input from_quote volatility_over
at_bound side p f k t D F z e =
    let b = price_bound side f k in
    let B : is_finite b ≡ true = in_both (λ (y : Float). is_finite y ≡ true) (eqb side 0) D.forward_finite D.strike_finite in
    let l : le b p ≡ true = at_least_bound p b (subst T (sym D.price_finite) tt) (subst T (sym B) tt) e in
    rw (
      domain_passes side p f k t D,
      from_price_is p (intrinsic_value side f k) b (sqrt f ⊗ sqrt k) (negative_abs_log_moneyness f k) t,
      z,
      l,
      e,
      infinity_over_root t D F z,
    ) (rw z)

-- ---- AND A NORMALISED TIME VALUE THAT IS b_max, of a price below its bound, where it is above 2 ^ -1022
number_of : (x v : Float) → eq v (b_max_of x) ≡ true → is_nan x ≡ false
unfolding is_nan
number_of nan v e = absurd (not_nan v (subst (λ (b : Float). eq v b ≡ true) b_max_nan e))
  where
    not_nan : (v : Float) → eq v nan ≡ true → ⊥
    not_nan nan e = unfold eq in false≢true e
    not_nan (inf s) e = unfold eq in false≢true e
    not_nan (fin s m d) e = unfold eq in false≢true e
number_of (inf s) v e = refl
number_of (fin s m d) v e = refl

equal_finite : (v b : Float) → T (finite b) → eq v b ≡ true → T (finite v)
unfolding eq
equal_finite nan b B e = absurd (false≢true e)
equal_finite (inf s) nan B e = absurd B
equal_finite (inf s) (inf t) B e = absurd B
equal_finite (inf s) (fin t m d) B e = absurd (false≢true e)
equal_finite (fin s m d) b B e = tt

min_positive_parts : (is_sign_minus min_positive ≡ false) × T (finite min_positive)
unfolding of_bits
min_positive_parts = (refl, tt)

not_at_most_zero : (v : Float) → T (positive v) → le v plus_zero ≡ false
unfolding le
not_at_most_zero v p = let t = positive_tests v p in rw (t.1, t.0) refl

at_b_max_normalised : (x v : Float) → T (finite v) → le v min_positive ≡ false → eq v (b_max_of x) ≡ true → from_time_value x v ≡ at_once (total infinity)
unfolding from_time_value from_normalised_price
at_b_max_normalised x v q l e =
    let b = b_max_of x in
    let (s, f) = min_positive_parts in
    let p : T (positive v) = lt_positive min_positive v f s q (not_le v min_positive q f l) in
    rw (l, not_at_most_zero v p, at_least_bound v b q (b_max_small x (number_of x v e)).is_finite_lem e, e) refl

pub at_b_max : (side : ℕ) (p f k t : Float) → Domain side p f k t → T (fits binary64 t)
    → eq t plus_zero ≡ false → le (price_bound side f k) p ≡ false
    → le (normalised_time_value p (intrinsic_value side f k) (sqrt f ⊗ sqrt k)) min_positive ≡ false → AtBMax side p f k
    → implied_black_volatility_input side p f k t ≡ answer infinity infinity 0
unfolding implied_black_volatility_input from_quote volatility_over
at_b_max side p f k t D F z l m e =
    let d = intrinsic_value side f k in
    let b = price_bound side f k in
    let r = sqrt f ⊗ sqrt k in
    let x = negative_abs_log_moneyness f k in
    let v = normalised_time_value p d r in
    let q : T (finite v) = equal_finite v (b_max_of x) (b_max_small x (number_of x v e)).is_finite_lem e in
    rw (domain_passes side p f k t D, from_price_is p d b r x t, z, l, at_b_max_normalised x v q m e, infinity_over_root t D F z) (rw z)

-- ---- and so are a divided price that is its bound, and one below it whose normalised time value is b_max
module _ (side : ℕ) (p f k t d : Float) (h : DiscountedDomain side p f k t d) (q : is_finite (p ⊘ d) ≡ true) (F : T (fits binary64 t))
    (z : eq t plus_zero ≡ false) where
  D : Domain side (p ⊘ d) f k t
  D = divided_domain side p f k t d h q

  pub discounted_at_bound : AtBound side (p ⊘ d) f k → implied_black_volatility_discounted side p f k t d ≡ answer infinity infinity 0
  discounted_at_bound e = divided_reply side p f k t d h q ∙ at_bound side (p ⊘ d) f k t D F z e

  pub discounted_at_b_max : le (price_bound side f k) (p ⊘ d) ≡ false
      → le (normalised_time_value (p ⊘ d) (intrinsic_value side f k) (sqrt f ⊗ sqrt k)) min_positive ≡ false → AtBMax side (p ⊘ d) f k
      → implied_black_volatility_discounted side p f k t d ≡ answer infinity infinity 0
  discounted_at_b_max l m e = divided_reply side p f k t d h q ∙ at_b_max side (p ⊘ d) f k t D F z l m e

-- ---- A PRICE BELOW ITS BOUND may be answered so too: one unit of the last place below 1.37, which is forward and strike
pub below_its_bound : implied_black_volatility_input 0 (bits 0x3FF5_EB85_1EB8_51EB) (bits 0x3FF5_EB85_1EB8_51EC) (bits 0x3FF5_EB85_1EB8_51EC) one
    ≡ answer infinity infinity 0
unfolding implied_black_volatility_input from_quote first_refusal from_price from_time_value from_normalised_price volatility_over negative_abs_log_moneyness
below_its_bound = unfold sqrt exp ln1p max min abs sub mul div lt le eq is_nan of_bits in refl
