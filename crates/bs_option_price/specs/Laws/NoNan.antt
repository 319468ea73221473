-- No normalised price is a NaN, for a finite x of size 2 ^ 11 at most and an s that is a number and not below 0, be it infinite, zero or subnormal;
-- and so no time value is, for finite prices above 0. Assumes nothing.
use Rattle.std.specs.Prelude.{◌≡◌, ◌⊎◌, Bool, true, false, ◌&&◌, ◌||◌, ℕ, zero, suc, ◌+◌, ◌*◌, ◌^◌, ◌≤◌, ◌<◌, ℤ, pos, T, Float}
use Rattle.std.proofs.Math.Path.{refl}
use Rattle.std.proofs.Common.{sym, ap, ◌∙◌, subst, inl, inr, true≢false, zero-le, le_of_eq, le_of_lt, lt_of_le_of_lt, mul-one, mul-pos, mul-le-mul_right, zero-mul, zero-lt-suc, arith, ltb-false, lit≤, ltb→lt, pow_pos}
use Rattle.std.proofs.Math.Bool.{or-true}
use Rattle.std.specs.Float.{nan, inf, fin}
use Rattle.std.specs.Float.Ieee.{binary64, up, down, unlike, round, add, div, mul, neg, lt, eq, is_nan, fits, of_bits}
use Rattle.std.specs.Float.Ieee.Fits.{mul-fits, div-fits, up_pos, down_pos}
use Rattle.std.specs.Float.Ieee.Scale.{finite}
use Rattle.std.specs.Float.Ieee.Positive.{num, den, den_pos, positive, positive-finite}
use Rattle.arithmetic.specs.Operations.{◌⊕◌, ◌⊗◌, ◌⊘◌, plus_zero, half, two}
use Rattle.arithmetic.specs.Basic.{is_sign_minus, is_infinite, max, takes_first}
use Rattle.arithmetic.specs.Laws.Choices.{in_both, by_test}
use Rattle.arithmetic.specs.Laws.Numbers.{lt_or_le}
use Rattle.arithmetic.specs.Sqrt.{sqrt}
use Rattle.arithmetic.specs.Laws.Compare.{finite_no_nan}
use Rattle.arithmetic.specs.Laws.Identities.{mul_swap}
use Rattle.arithmetic.specs.Laws.Times.{positive_sign}
use Rattle.arithmetic.specs.Laws.SqrtBounds.{sqrt_positive, roots_positive}
use Rattle.arithmetic.specs.Laws.Quotients.{mul_no_nan}
use Rattle.arithmetic.specs.Laws.Sums.{add_is}
use Rattle.arithmetic.specs.Laws.Products.{mul_is, div_is}
use Rattle.arithmetic.specs.Laws.ScaledRatios.{positive_zero}
use Rattle.arithmetic.specs.Laws.Bounds.{round_to_zero}
use Rattle.special_function.specs.Constants.{frac1_sqrt2_pi}
use Rattle.bs_option_price.specs.BsOptionPrice.{eta, is_region1, is_region2, normalised_black_with_optimal_use_of_codys_functions}
use Rattle.bs_option_price.specs.BsOptionPrice.{normalised_black_with_optimal_use_of_codys_functions_impl, normalised_vega, normalised_black}
use Rattle.bs_option_price.specs.BsOptionPrice.{negative_abs_log_moneyness}
use Rattle.arithmetic.specs.Laws.Sizes.{grain_held, round_upper, sum_alike, round_minus, round_cases}
use Rattle.arithmetic.specs.Laws.PowerBounds.{square_is, Small, small_mul, small_of}
use Rattle.arithmetic.specs.Laws.ExpBounds.{exp_minus}
use Rattle.bs_option_price.specs.Laws.AsymptoticExpansion.{border, add_infinity, expansion_small}
use Rattle.bs_option_price.specs.Laws.MoneynessBounds.{PositiveValue, log_moneyness_small}
use Rattle.bs_option_price.specs.Laws.SmallTExpansion.{plus_not_below, small_t_small, infinite_outside}

-- ---- `max` drops a NaN
number_or_zero : (x : Float) → is_nan (max x plus_zero) ≡ false
unfolding max is_nan of_bits
number_or_zero x =
    by_test (λ (z : Float). is_nan z ≡ false) (is_nan x) (λ e. refl)
    (λ e. in_both (λ (z : Float). is_nan z ≡ false) (takes_first x plus_zero) e refl)

cody_no_nan : (x h t : Float) → is_nan (normalised_black_with_optimal_use_of_codys_functions x h t) ≡ false
unfolding normalised_black_with_optimal_use_of_codys_functions normalised_black_with_optimal_use_of_codys_functions_impl
cody_no_nan x h t = number_or_zero _

-- ---- the vega is 1 at most
-- a number with the sign +
abbrev pub Upper : Float → Type 0
Upper z = (T (finite z) × (is_sign_minus z ≡ false)) ⊎ (z ≡ inf false)

upper_round : (a c : ℕ) → Upper (round binary64 false a c)
upper_round a c = elim (round_cases false a c) [ inl f ↦ inl (f, round_minus false a c) | inr e ↦ inr e ]

upper_square : (x : Float) → T (finite x) → Upper (x ⊗ x)
upper_square x p = subst Upper (sym (square_is x p)) (upper_round (num x * num x) (den x * den x))

infinity_add : (y : Float) → Upper y → Upper (inf false ⊕ y)
unfolding add
infinity_add nan (inl (p, s)) = absurd p
infinity_add (inf t) (inl (p, s)) = absurd p
infinity_add (fin t m e) (inl (p, s)) = inr refl
infinity_add y (inr e) = inr (ap (λ (z : Float). inf false ⊕ z) e)

upper_add : (x y : Float) → Upper x → Upper y → Upper (x ⊕ y)
upper_add x y (inl (p, s)) (inl (q, t)) =
    let a = num x * den y in
    let b = num y * den x in
    let c = den x * den y in
    let is : x ⊕ y ≡ round binary64 false (a + b) c = add_is binary64 x y p q ∙ rw (s, t) (sum_alike false a b c) in
    subst Upper (sym is) (upper_round (a + b) c)
upper_add x y (inl (p, s)) (inr e) = inr (ap (λ (z : Float). x ⊕ z) e ∙ add_infinity x p)
upper_add x y (inr e) h = subst (λ (z : Float). Upper (z ⊕ y)) (sym e) (infinity_add y h)

half_of_infinity : neg half ⊗ inf false ≡ inf true
unfolding mul neg of_bits
half_of_infinity = refl

neg_half_parts : (is_sign_minus (neg half) ≡ true) × T (finite (neg half))
unfolding neg of_bits
neg_half_parts = (refl, tt)

pub minus_half : (z : Float) → Upper z → is_sign_minus (neg half ⊗ z) ≡ true
minus_half z (inl (p, s)) = ap is_sign_minus (mul_is binary64 (neg half) z neg_half_parts.1 p) ∙ rw (neg_half_parts.0, s) (round_minus true _ _)
minus_half z (inr e) = ap (λ (w : Float). is_sign_minus (neg half ⊗ w)) e ∙ ap is_sign_minus half_of_infinity

vega_small : (h t : Float) → T (finite h) → T (finite t) → Small 0 (normalised_vega h t)
unfolding normalised_vega of_bits
vega_small h t p q =
    small_mul (small_of 0 frac1_sqrt2_pi tt)
    (exp_minus _ (mul-fits binary64 _ _) (minus_half _ (upper_add (t ⊗ t) (h ⊗ h) (upper_square t q) (upper_square h p)))) (lit≤ tt)

-- ---- by the three formulas
abbrev Number : Float → Type 0
Number z = is_nan z ≡ false

small_number : {k : ℕ} {z : Float} → Small k z → Number z
small_number {k} {z} h = finite_no_nan z h.is_finite_lem

region1_tests : (h t : Float) → is_region1 h t ≡ true → (lt h eta ≡ true) × (lt (t ⊕ h) border ≡ true)
unfolding is_region1
region1_tests h t = both (lt h eta) (lt (t ⊕ h) border)
  where
    both : (a b : Bool) → (a && b) ≡ true → (a ≡ true) × (b ≡ true)
    both true true e = (refl, refl)
    both true false e = absurd (true≢false (sym e))
    both false b e = absurd (true≢false (sym e))

priced : (x h t : Float) → T (finite h) → T (finite t) → is_sign_minus t ≡ false → T (fits binary64 h) → (2 ^ 26 * den h ≤ num h → num t ≤ den t)
    → Number (normalised_black x h t)
unfolding normalised_black is_nan of_bits
priced x h t p q s F tame =
    in_both Number (eq t plus_zero || is_infinite h) refl
    (by_test Number (is_region1 h t)
    (λ r. let (l, g) = region1_tests h t r in
    small_number (small_mul (expansion_small h t p q s l g tame) (vega_small h t p q) (lit≤ tt)))
    (λ r1. by_test Number (is_region2 h t)
    (λ r2. small_number (small_mul (small_t_small h t p q s F r1 r2) (vega_small h t p q) (lit≤ tt)))
    (λ r2. cody_no_nan x h t)))

-- ---- an infinite t
infinite_first : (h : Float) → T (finite h) → is_region1 h (inf false) ≡ false
unfolding is_region1 add lt of_bits
infinite_first nan p = absurd p
infinite_first (inf s) p = absurd p
infinite_first (fin s m e) p = and-false (lt (fin s m e) eta)
  where
    and-false : (b : Bool) → (b && false) ≡ false
    and-false true = refl
    and-false false = refl

infinite_priced : (x h : Float) → T (finite h) → T (fits binary64 h) → Number (normalised_black x h (inf false))
unfolding normalised_black is_nan of_bits
infinite_priced x h p F =
    in_both Number (eq (inf false) plus_zero || is_infinite h) refl
    (rw (infinite_first h p, infinite_outside h p F) (cody_no_nan x h (inf false)))

infinite_ratio : (y t : Float) (u : Bool) → Number (normalised_black y (inf u) t)
unfolding normalised_black is_nan of_bits
infinite_ratio y t u = rw (or-true (eq t plus_zero)) refl

-- ---- s is finite, and above 0
module _ (x s : Float) (p : T (finite x)) (l : num x ≤ 2 ^ 11 * den x) (q : T (finite s)) (e : is_sign_minus s ≡ false) (S : 0 < num s) where
  abbrev h : Float
  h = x ⊘ s

  abbrev t : Float
  t = s ⊘ two

  h_is : h ≡ round binary64 (unlike (is_sign_minus x) false) (num x * den s) (num s * den x)
  h_is = div_is binary64 x s p q ∙ rw (positive_zero (num s) S, e) refl

  t_is : t ≡ round binary64 false (num s * 1) (2 * den s)
  unfolding of_bits
  t_is = div_is binary64 s two q tt ∙ rw e refl

  -- a t above 1 has an s above 2, and an h of size 2 ^ 11 at most
  tame : 2 ^ 26 * den h ≤ num h → num t ≤ den t
  tame g = elim (lt_or_le (2 * den s) (num s)) [
    | inl k ↦
        let sign = unlike (is_sign_minus x) false in
        let u = round_upper sign (num x * den s) (num s * den x) 2048 1 (mul-pos S (den_pos x)) (pow_pos 0) (grain_held 2048 0 (lit≤ tt) zero-le)
        (less (num x) (den x) (num s) (den s) (mul-le-mul_right (den s) l) (mul-le-mul_right (den x) (le_of_lt k))) in
        absurd (over (num h) (den h) (den_pos h) g (subst (λ (z : Float). num z * 1 ≤ 2048 * den z) (sym h_is) u.2))
    | inr k ↦
        let u = round_upper false (num s * 1) (2 * den s) 1 1 (mul-pos (pow_pos 1) (den_pos s)) (pow_pos 0) (grain_held 1 0 (lit≤ tt) zero-le) (omega arith) in
        subst (λ (z : Float). num z ≤ den z) (sym t_is) (flat _ _ u.2)
  ]
    where
      less : (n d a c : ℕ) → n * c ≤ 2 ^ 11 * d * c → 2 * c * d ≤ a * d → n * c * 1 ≤ 2048 * (a * d)
      less n d a c h g = omega arith

      over : (n d : ℕ) → 0 < d → 2 ^ 26 * d ≤ n → n * 1 ≤ 2048 * d → ⊥
      over n d D h g = omega arith

      flat : (n d : ℕ) → n * 1 ≤ 1 * d → n ≤ d
      flat n d h = omega arith

  finite_priced : (y : Float) → Number (normalised_black y h t)
  finite_priced y = elim (round_cases (unlike (is_sign_minus x) false) (num x * den s) (num s * den x)) [
    | inr i ↦ subst (λ (z : Float). Number (normalised_black y z t)) (sym (h_is ∙ i)) (infinite_ratio y t (unlike (is_sign_minus x) false))
    | inl f ↦ elim (round_cases false (num s * 1) (2 * den s)) [
      | inl g ↦ priced y h t (subst (λ (z : Float). T (finite z)) (sym h_is) f) (subst (λ (z : Float). T (finite z)) (sym t_is) g)
          (ap is_sign_minus t_is ∙ round_minus false (num s * 1) (2 * den s)) (div-fits binary64 x s) tame
      | inr i ↦ subst (λ (z : Float). Number (normalised_black y h z)) (sym (t_is ∙ i))
          (infinite_priced y h (subst (λ (z : Float). T (finite z)) (sym h_is) f) (div-fits binary64 x s))
    ]
  ]

-- ---- an s of 0, and an infinite one
at_zero : (y h : Float) (u : Bool) → Number (normalised_black y h (fin u 0 (pos 0)))
unfolding normalised_black eq is_nan of_bits
at_zero y h true = refl
at_zero y h false = refl

zero_priced : (y h s : Float) → T (finite s) → num s ≡ 0 → Number (normalised_black y h (s ⊘ two))
unfolding of_bits
zero_priced y h s p e =
    let u = unlike (is_sign_minus s) false in
    let none : num s * 1 * 2 ^ 1075 ≡ 0 = ap (λ (z : ℕ). z * 2 ^ 1075) (mul-one (num s) ∙ e) ∙ zero-mul (2 ^ 1075) in
    let is : s ⊘ two ≡ fin u 0 (pos 0) =
    div_is binary64 s two p tt
    ∙ round_to_zero u (num s * 1) (2 * den s) (lt_of_le_of_lt (le_of_eq none) (mul-pos (pow_pos 1) (den_pos s))) in
    subst (λ (z : Float). Number (normalised_black y h z)) (sym is) (at_zero y h u)

half_infinity : inf false ⊘ two ≡ inf false
unfolding div of_bits
half_infinity = refl

over_infinity : (x : Float) → T (finite x) → T (finite (x ⊘ inf false))
unfolding div
over_infinity nan p = absurd p
over_infinity (inf s) p = absurd p
over_infinity (fin s m e) p = tt

minus_zero_lem : (m : ℕ) (e : ℤ) → lt (fin true m e) plus_zero ≡ false → m * up e ≡ 0
unfolding lt of_bits
minus_zero_lem m e g = go (m * up e) (down e) (ltb-false 0 (m * up e * 1 + 0 * down e) g)
  where
    go : (n d : ℕ) → n * 1 + 0 * d ≤ 0 → n ≡ 0
    go n d h = omega arith

-- ---- the law
pub black_no_nan : (y x s : Float) → T (finite x) → num x ≤ 2 ^ 11 * den x → is_nan s ≡ false → lt s plus_zero ≡ false
    → is_nan (normalised_black y (x ⊘ s) (s ⊘ two)) ≡ false
unfolding is_nan lt of_bits
black_no_nan y x nan p l n g = absurd (true≢false n)
black_no_nan y x (inf true) p l n g = absurd (true≢false g)
black_no_nan y x (inf false) p l n g =
    subst (λ (z : Float). Number (normalised_black y (x ⊘ inf false) z)) (sym half_infinity)
    (infinite_priced y (x ⊘ inf false) (over_infinity x p) (div-fits binary64 x (inf false)))
black_no_nan y x (fin true m e) p l n g = zero_priced y (x ⊘ fin true m e) (fin true m e) tt (minus_zero_lem m e g)
black_no_nan y x (fin false zero e) p l n g = zero_priced y (x ⊘ fin false 0 e) (fin false 0 e) tt (zero-mul (up e))
black_no_nan y x (fin false (suc m) e) p l n g = finite_priced x (fin false (suc m) e) p l tt refl (mul-pos (zero-lt-suc m) (up_pos e)) y

-- ---- a volatility times the root of a time, which r stands for
infinite_product : (r : Float) → T (positive r) → lt (inf false ⊗ r) plus_zero ≡ false
unfolding lt mul of_bits
infinite_product nan p = absurd p
infinite_product (inf t) p = absurd p
infinite_product (fin true m e) p = absurd p
infinite_product (fin false m e) p = rw (positive_zero m (ltb→lt 0 m p)) refl

plus_product : (m : ℕ) (e : ℤ) (r : Float) → T (positive r) → lt (fin false m e ⊗ r) plus_zero ≡ false
plus_product m e r p =
    plus_not_below (fin false m e ⊗ r)
    (ap is_sign_minus (mul_is binary64 (fin false m e) r tt (positive-finite r p)) ∙ rw (positive_sign r p) (round_minus false _ _))

minus_zero_not_below : lt (fin true 0 (pos 0)) plus_zero ≡ false
unfolding lt of_bits
minus_zero_not_below = refl

zero_product : (m : ℕ) (e : ℤ) (r : Float) → m * up e ≡ 0 → T (positive r) → lt (fin true m e ⊗ r) plus_zero ≡ false
zero_product m e r z p =
    let none : m * up e * num r * 2 ^ 1075 ≡ 0 =
    ap (λ (z : ℕ). z * num r * 2 ^ 1075) z ∙ ap (λ (z : ℕ). z * 2 ^ 1075) (zero-mul (num r)) ∙ zero-mul (2 ^ 1075) in
    let is : fin true m e ⊗ r ≡ fin true 0 (pos 0) =
    mul_is binary64 (fin true m e) r tt (positive-finite r p)
    ∙ rw (positive_sign r p) (round_to_zero true (m * up e * num r) (down e * den r)
    (lt_of_le_of_lt (le_of_eq none) (mul-pos (down_pos e) (den_pos r)))) in
    ap (λ (z : Float). lt z plus_zero) is ∙ minus_zero_not_below

not_below : (v r : Float) → T (positive r) → is_nan v ≡ false → lt v plus_zero ≡ false → lt (v ⊗ r) plus_zero ≡ false
unfolding is_nan lt of_bits
not_below nan r p n g = absurd (true≢false n)
not_below (inf true) r p n g = absurd (true≢false g)
not_below (inf false) r p n g = infinite_product r p
not_below (fin false m e) r p n g = plus_product m e r p
not_below (fin true m e) r p n g = zero_product m e r (minus_zero_lem m e g) p

-- ---- NO TIME VALUE IS A NaN, for finite prices above 0 and a total volatility s that is a number and not below 0
module _ (forward strike : Float) (F : PositiveValue forward) (K : PositiveValue strike) where
  abbrev log_moneyness : Float
  log_moneyness = negative_abs_log_moneyness forward strike

  abbrev time_value : Float → Float
  time_value s = sqrt forward ⊗ sqrt strike ⊗ normalised_black (log_moneyness ⊘ two) (log_moneyness ⊘ s) (s ⊘ two)

  pub time_value_at : (s : Float) → is_nan s ≡ false → lt s plus_zero ≡ false → is_nan (time_value s) ≡ false
  time_value_at s n g =
      let x : Small 11 log_moneyness = log_moneyness_small forward strike F K in
      mul_no_nan binary64 (sqrt forward ⊗ sqrt strike) _ (roots_positive forward strike F.above F.held K.above K.held)
      (black_no_nan (log_moneyness ⊘ two) log_moneyness s x.is_finite_lem x.bound n g)

  -- s is a volatility, be it infinite, times the root of a finite time above 0
  pub time_value_no_nan : (volatility time : Float) → is_nan volatility ≡ false → lt volatility plus_zero ≡ false → PositiveValue time
      → is_nan (time_value (volatility ⊗ sqrt time)) ≡ false
  time_value_no_nan volatility time n g M =
      let r = sqrt_positive time M.above M.held in
      time_value_at (volatility ⊗ sqrt time)
      (ap is_nan (mul_swap binary64 volatility (sqrt time)) ∙ mul_no_nan binary64 (sqrt time) volatility r n) (not_below volatility (sqrt time) r n g)
