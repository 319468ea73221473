-- `erfinv` of a value between 0 and 1 is NaN, or 2 ^ 78 at most in size. Assumes nothing.
use Rattle.std.specs.Prelude.{◌≡◌, ◌⊎◌, List, ◌∷◌, Bool, true, cond, ◌&&◌, ℕ, zero, suc, ◌+◌, ◌-◌, ◌*◌, ◌^◌, ◌≤◌, ◌<◌, T, length, Float}
use Rattle.std.proofs.Math.Path.{refl}
use Rattle.std.proofs.Common.{sym, ap, ◌∙◌, subst, zero-lt-suc, zero-mul, le_of_lt, mul-pos, mul-le-mul, mul-le-mul_left, mul-le-mul_right, le_of_mul-le-mul_right, arith, ltb-true, lt-ltb, lit≤, pow_pos}
use Rattle.std.proofs.Math.Logic.{inl, inr}
use Rattle.std.proofs.Math.Bool.{false}
use Rattle.std.specs.Float.Ieee.{up, neg, lt, fits, of_bits, round, mul, add, div, sum}
use Rattle.std.specs.Float.{nan, inf, fin, binary64}
use Rattle.std.specs.Float.Ieee.Fits.{and_l, and_r, add-fits, neg-fits}
use Rattle.std.specs.Float.Ieee.Scale.{finite}
use Rattle.std.specs.Float.Ieee.Positive.{num, den, den_pos, positive, positive-finite, positive_of_value}
use Rattle.arithmetic.specs.Operations.{◌⊕◌, ◌⊗◌, ◌⊘◌, bits, half, one, two, frac1_sqrt2}
use Rattle.arithmetic.specs.Basic.{abs, is_sign_minus, mul_add2_sel}
use Rattle.arithmetic.specs.Sqrt.{sqrt}
use Rattle.arithmetic.specs.Ln.{ln}
use Rattle.arithmetic.specs.Laws.Choices.{in_both, by_test}
use Rattle.arithmetic.specs.Laws.PowerBounds.{Small, small_widen, small_neg, small_mul, small_add, small_div, small_round, Plus, Between}
use Rattle.arithmetic.specs.Laws.PowerBounds.{small_test, between_test, small_of, between_of}
use Rattle.arithmetic.specs.Laws.RootBounds.{root_plus}
use Rattle.arithmetic.specs.Laws.Compare.{lt_is}
use Rattle.arithmetic.specs.Laws.Products.{mul_is}
use Rattle.arithmetic.specs.Laws.Sums.{add_is}
use Rattle.arithmetic.specs.Laws.Times.{of_cross, positive_sign, neg_finite, neg_sign, neg_num, neg_den}
use Rattle.arithmetic.specs.Laws.Bounds.{AtMost, round_at_most, round_order}
use Rattle.arithmetic.specs.Laws.UnitInterval.{fraction_below, one_parts}
use Rattle.arithmetic.specs.Laws.Sizes.{sub_is, difference_plus, grain_held, round_upper, round_lower}
use Rattle.arithmetic.specs.Laws.LnBounds.{ln_small, ln_fits, positive_tests}
use Rattle.arithmetic.specs.Laws.Zeros.{zero_of, zero_by_sign}
use Rattle.special_function.specs.Polynomial.{nested}
use Rattle.special_function.specs.NormalDistribution.{u_max, inverse_norm_cdfm_half_for_midrange_probabilities, inverse_norm_cdf_for_low_probabilities}
use Rattle.special_function.specs.NormalDistribution.{numerator_i, denominator_i, numerator_ii, denominator_ii}
use Rattle.special_function.specs.NormalDistribution.{numerator_iii, denominator_iii, numerator_iv, denominator_iv, numerator_v, denominator_v}
use Rattle.special_function.specs.Erfinv.{erfinv}
use Rattle.special_function.specs.Laws.PolynomialBounds.{each_small, each_between, each_test, nested_small, nested_between}

-- ---- 2 ^ k at most in size, or NaN
abbrev pub NanOr : ℕ → Float → Type 0
NanOr k x = (x ≡ nan) ⊎ Small k x

nan_or_neg : {k : ℕ} {x : Float} → NanOr k x → NanOr k (neg x)
unfolding neg
nan_or_neg (inl e) = inl (ap neg e)
nan_or_neg (inr h) = inr (small_neg h)

pub nan_or_mul : {k j : ℕ} {x c : Float} → NanOr k x → Small j c → k + j ≤ 1023 → NanOr (k + j) (x ⊗ c)
unfolding mul
nan_or_mul {c = c} (inl e) h l = inl (ap (λ (z : Float). z ⊗ c) e)
nan_or_mul (inr g) h l = inr (small_mul g h l)

-- ---- low probabilities: by the root r of -ln p, a quotient of two polynomials with six coefficients
module _ (r : Float) (R : Plus 6 r) (v : Float) (cs : List Float) (w : Float) (ds : List Float) where
  branch : T (small_test 7 v && each_test (small_test 7) cs) → length cs ≡ 5 → T (between_test 36 7 w && each_test (between_test 36 7) ds) → length ds ≡ 5
      → Small 78 (nested r (v ∷ cs) ⊘ nested r (w ∷ ds))
  branch s i t j =
      small_div {i = 42} {j = 36} {k = 42}
      (subst (λ (n : ℕ). Small (7 + n * 7) (nested r (v ∷ cs))) i
      (nested_small 6 7 7 r v cs R.small (each_small 7 cs (and_r (small_test 7 v) _ s)) (small_of 7 v (and_l (small_test 7 v) _ s)) (lit≤ tt)
      (rw i (lit≤ tt))))
      (subst (λ (n : ℕ). Between 36 (7 + n * 7) (nested r (w ∷ ds))) j
      (nested_between 36 6 7 7 r w ds R (each_between 36 7 ds (and_r (between_test 36 7 w) _ t)) (between_of 36 7 w (and_l (between_test 36 7 w) _ t)) (lit≤ tt)
      (lit≤ tt) (rw j (lit≤ tt))))
      (lit≤ tt)

abbrev at_root : Float → Float
at_root r =
    cond (lt r (bits 0x4000_6666_6666_6666)) (nested r numerator_i ⊘ nested r denominator_i)
    (cond (lt r (bits 0x400B_47AE_147A_E148)) (nested r numerator_ii ⊘ nested r denominator_ii)
    (cond (lt r (bits 0x401A_CCCC_CCCC_CCCD)) (nested r numerator_iii ⊘ nested r denominator_iii)
    (cond (lt r (bits 0x4029_CCCC_CCCC_CCCD)) (nested r numerator_iv ⊘ nested r denominator_iv) (nested r numerator_v ⊘ nested r denominator_v))))

at_root_lem : (r : Float) → Plus 6 r → Small 78 (at_root r)
unfolding of_bits each_test
at_root_lem r R =
    in_both (Small 78) (lt r _) (branch r R _ _ _ _ tt refl tt refl)
    (in_both (Small 78) (lt r _) (branch r R _ _ _ _ tt refl tt refl)
    (in_both (Small 78) (lt r _) (branch r R _ _ _ _ tt refl tt refl)
    (in_both (Small 78) (lt r _) (branch r R _ _ _ _ tt refl tt refl) (branch r R _ _ _ _ tt refl tt refl))))

-- w is -ln p. It is above 0, but that is not needed: for a zero the value is computed, and below 0 the root is NaN
at_logarithm : (w : Float) → Small 10 w → T (fits binary64 w) → NanOr 78 (at_root (sqrt w))
at_logarithm nan h F = absurd h.is_finite_lem
at_logarithm (inf s) h F = absurd h.is_finite_lem
at_logarithm (fin s zero e) h F = subst (λ (z : Float). NanOr 78 (at_root (sqrt z))) (sym (zero_by_sign (fin s zero e) F tt (zero-mul (up e)))) (at_zero s)
  where
    at_zero : (s : Bool) → NanOr 78 (at_root (sqrt (zero_of s)))
    at_zero true = unfold sqrt lt mul add div nested of_bits in inr (small_of 78 _ tt)
    at_zero false = unfold sqrt lt mul add div nested of_bits in inr (small_of 78 _ tt)
at_logarithm (fin true (suc m) e) h F = unfold sqrt lt mul add div nested of_bits in inl refl
at_logarithm (fin false (suc m) e) h F =
    inr (at_root_lem _ (root_plus (fin false (suc m) e) (subst T (sym (lt-ltb 0 (suc m) (zero-lt-suc m))) tt) F 5 h))

low_number : (p : Float) → T (positive p) → T (fits binary64 p) → NanOr 78 (inverse_norm_cdf_for_low_probabilities p)
unfolding inverse_norm_cdf_for_low_probabilities
low_number p P F = at_logarithm (neg (ln p)) (small_neg (ln_small p P F)) (neg-fits binary64 (ln p) (ln_fits p P))

-- ---- the argument u = e / 2 of the midrange is u_max at most, so that u_max * u_max less its square is not negative
constants : T (fits binary64 u_max) × (num u_max ≤ den u_max) × (is_sign_minus u_max ≡ false) × (num half * 2 ≡ den half) × (is_sign_minus half ≡ false)
    × (num (two ⊗ u_max) * den u_max ≡ 2 * num u_max * den (two ⊗ u_max)) × (is_sign_minus (two ⊗ u_max) ≡ false)
    × (neg (neg (u_max ⊗ u_max)) ≡ u_max ⊗ u_max) × (is_sign_minus (neg (u_max ⊗ u_max)) ≡ true) × T (small_test 0 (u_max ⊗ u_max))
unfolding of_bits fits mul neg
constants = (tt, lit≤ tt, refl, refl, refl, refl, refl, refl, refl, tt)

finite_constants : T (finite u_max) × T (finite half) × T (finite (two ⊗ u_max)) × T (finite (u_max ⊗ u_max))
unfolding of_bits mul
finite_constants = (tt, tt, tt, tt)

positive_abs : (x : Float) → T (positive x) → abs x ≡ x
unfolding abs
positive_abs nan p = absurd p
positive_abs (inf s) p = absurd p
positive_abs (fin true m d) p = absurd p
positive_abs (fin false m d) p = refl

-- of e = n / d, which is less than twice M / D
halved : (n d y z h k M D : ℕ) → 0 < z → n * z < y * d → y * D ≡ 2 * M * z → h * 2 ≡ k → h * n * D ≤ M * (k * d)
halved n d y z h k M D Z l e f =
    let a : n * z * D ≤ y * d * D = mul-le-mul_right D (le_of_lt l) in
    let b : y * D * d ≡ 2 * M * z * d = ap (λ (t : ℕ). t * d) e in
    let c : n * D * z ≤ 2 * M * d * z = omega arith in
    let i : h * (n * D) ≤ h * (2 * M * d) = mul-le-mul_left h (le_of_mul-le-mul_right c Z) in
    let j : h * 2 * (M * d) ≡ k * (M * d) = ap (λ (t : ℕ). t * (M * d)) f in
    omega arith

squared : (n d M D : ℕ) → n * D ≤ M * d → n * n * (D * D) ≤ M * M * (d * d)
squared n d M D h = let s : n * D * (n * D) ≤ M * d * (M * d) = mul-le-mul h h in omega arith

below_whole : (n d M D : ℕ) → 0 < D → M ≤ D → n * D ≤ M * d → n ≤ 1 * d
below_whole n d M D Z l h =
    let a : M * d ≤ D * d = mul-le-mul_right d l in
    let b : n * D ≤ 1 * d * D = omega arith in
    le_of_mul-le-mul_right b Z

module _ (e : Float) (P : T (positive e)) (L : lt (abs e) (two ⊗ u_max) ≡ true) where
  abbrev y : Float
  y = two ⊗ u_max

  abbrev u : Float
  u = half ⊗ e

  abbrev C : Float
  C = u_max ⊗ u_max

  E : T (finite e)
  E = positive-finite e P

  less : num e * den y < num y * den e
  less =
      ltb-true (num e * den y) (num y * den e)
      (sym (lt_is e y E finite_constants.2 ∙ rw (positive_sign e P, constants.6)) ∙ ap (λ (z : Float). lt z y) (sym (positive_abs e P)) ∙ L)

  u_is : u ≡ round binary64 false (num half * num e) (den half * den e)
  u_is = mul_is binary64 half e finite_constants.1 E ∙ rw (positive_sign e P, constants.4)

  u_under : AtMost false u_max u
  u_under =
      subst (AtMost false u_max) (sym u_is)
      (round_at_most binary64 false (num half * num e) (den half * den e) u_max (mul-pos (den_pos half) (den_pos e)) constants.0 finite_constants.0
      (halved (num e) (den e) (num y) (den y) (num half) (den half) (num u_max) (den u_max) (den_pos y) less constants.5 constants.3))

  u_small : Small 0 u
  u_small = record {
    is_finite_lem = u_under.is_finite_lem;
    bound = below_whole (num u) (den u) (num u_max) (den u_max) (den_pos u_max) constants.1 u_under.bound;
  }

  square_is : u ⊗ neg u ≡ round binary64 true (num u * num u) (den u * den u)
  square_is =
      mul_is binary64 u (neg u) u_small.is_finite_lem (neg_finite u u_small.is_finite_lem)
      ∙ rw (neg_num u, neg_den u, neg_sign u u_small.is_finite_lem, u_under.sign)

  C-is : C ≡ round binary64 false (num u_max * num u_max) (den u_max * den u_max)
  C-is = mul_is binary64 u_max u_max finite_constants.0 finite_constants.0 ∙ rw constants.2

  square_small : Small 0 (u ⊗ neg u)
  square_small = small_mul u_small (small_neg u_small) (lit≤ tt)

  order : num (u ⊗ neg u) * den C ≤ num C * den (u ⊗ neg u)
  order =
      rw (square_is, C-is)
      (round_order binary64 true false (num u * num u) (den u * den u) (num u_max * num u_max) (den u_max * den u_max)
      (mul-pos (den_pos u) (den_pos u)) (mul-pos (den_pos u_max) (den_pos u_max))
      (subst (λ (z : Float). T (finite z)) square_is square_small.is_finite_lem) (subst (λ (z : Float). T (finite z)) C-is finite_constants.3)
      (squared (num u) (den u) (num u_max) (den u_max) u_under.bound))

  argument_plus : Plus 1 (mul_add2_sel u (neg u) C)
  argument_plus = record {
    small = small_add square_small (small_of 0 C constants.9) (lit≤ tt);
    sign =
        ap is_sign_minus (sym (sub_is (u ⊗ neg u) (neg C) ∙ ap (λ (z : Float). u ⊗ neg u ⊕ z) constants.7))
        ∙ difference_plus (u ⊗ neg u) (neg C) square_small.is_finite_lem (neg_finite C finite_constants.3) constants.8
        (rw (neg_num C, neg_den C) order);
  }

  midrange_small : Small 22 (inverse_norm_cdfm_half_for_midrange_probabilities u)
  unfolding inverse_norm_cdfm_half_for_midrange_probabilities of_bits each_test
  midrange_small =
      small_mul u_small
      (small_div
      (nested_small 1 10 10 _ _ _ argument_plus.small (each_small 10 _ tt) (small_of 10 _ tt) (lit≤ tt) (lit≤ tt))
      (nested_between 0 1 9 9 _ _ _ argument_plus (each_between 0 9 _ tt) (between_of 0 9 _ tt) (lit≤ tt) (lit≤ tt) (lit≤ tt)) (lit≤ tt)) (lit≤ tt)

-- ---- for e below 1, (1 - e) / 2 is 2 ^ -54 at least
minus_half_parts : (num (neg half) * 2 ≡ den (neg half)) × (is_sign_minus (neg half) ≡ true) × T (finite (neg half)) × T (fits binary64 one)
unfolding of_bits neg fits
minus_half_parts = (refl, refl, tt, tt)

under_half : (n d h k : ℕ) → h * 2 ≡ k → n * 9007199254740992 ≤ 9007199254740991 * d → n * h * 2 ^ 54 ≤ 9007199254740991 * (d * k)
under_half n d h k e l =
    let a : h * 2 * (9007199254740991 * d) ≡ k * (9007199254740991 * d) = ap (λ (z : ℕ). z * (9007199254740991 * d)) e in
    let b : h * 2 * (n * 9007199254740992) ≤ h * 2 * (9007199254740991 * d) = mul-le-mul_left (h * 2) l in
    omega arith

-- a number n / d that is 2 ^ -54 at least below h / k, a half
apart_half : (n d h k : ℕ) → h * 2 ≡ k → n * 2 ^ 54 ≤ 9007199254740991 * d → d * k ≤ (h * d - n * k) * 2 ^ 54
apart_half n d h k e l =
    let a : h * 2 * d ≡ k * d = ap (λ (z : ℕ). z * d) e in
    let b : n * 2 ^ 54 * k ≤ 9007199254740991 * d * k = mul-le-mul_right k l in
    omega arith

at_most_whole : (h k d m : ℕ) → h * 2 ≡ k → h * d - m ≤ 1 * (d * k)
at_most_whole h k d m e = let a : h * 2 * d ≡ k * d = ap (λ (z : ℕ). z * d) e in omega arith

minus_plus : (a b c : ℕ) → a < b → sum binary64 true a false b c ≡ round binary64 false (b - a) c
unfolding sum
minus_plus a b c h = rw (lt-ltb a b h)

module _ (e : Float) (P : T (positive e)) (F : T (fits binary64 e)) (L : lt e one ≡ true) where
  abbrev A : Float
  A = e ⊗ neg half

  less_than_one : num e * 9007199254740992 ≤ 9007199254740991 * den e
  less_than_one =
      let l : num e * den one < num one * den e =
      ltb-true (num e * den one) (num one * den e)
      (sym (lt_is e one (positive-finite e P) one_parts.3 ∙ rw (positive_sign e P, one_parts.2)) ∙ L) in
      let f = fraction_below e one F minus_half_parts.3 (positive-finite e P) one_parts.3 l in
      let g : num e * 1 * 9007199254740992 ≤ 9007199254740991 * (1 * den e) = rw (one_parts.0, one_parts.1) at f in
      omega arith

  A-under : T (finite A) × (is_sign_minus A ≡ true) × (num A * 2 ^ 54 ≤ 9007199254740991 * den A)
  A-under =
      rw (mul_is binary64 e (neg half) (positive-finite e P) minus_half_parts.2, positive_sign e P, minus_half_parts.1)
      (round_upper true (num e * num (neg half)) (den e * den (neg half)) 9007199254740991 (2 ^ 54) (mul-pos (den_pos e) (den_pos (neg half))) (pow_pos 54)
      (grain_held 9007199254740991 54 (lit≤ tt) (lit≤ tt))
      (under_half (num e) (den e) (num (neg half)) (den (neg half)) minus_half_parts.0 less_than_one))

  abbrev n : ℕ
  n = num half * den A - num A * den half

  abbrev d : ℕ
  d = den A * den half

  apart : d ≤ n * 2 ^ 54
  apart = apart_half (num A) (den A) (num half) (den half) constants.3 A-under.2

  rest_is : A ⊕ half ≡ round binary64 false n d
  rest_is =
      let D : 0 < d = mul-pos (den_pos A) (den_pos half) in
      add_is binary64 A half A-under.0 finite_constants.1
      ∙ rw (A-under.1, constants.4) (minus_plus (num A * den half) (num half * den A) d (omega (arith, apart)))

  rest_positive : T (positive (A ⊕ half))
  rest_positive =
      let r = round binary64 false n d in
      let D : 0 < d = mul-pos (den_pos A) (den_pos half) in
      let (s, t) = small_round false n d 0 D (lit≤ tt) (at_most_whole (num half) (den half) (den A) (num A * den half) constants.3) in
      let l = round_lower false n d 1 (2 ^ 54) D (pow_pos 54) (grain_held 1 54 (lit≤ tt) (lit≤ tt)) s.is_finite_lem (omega (arith, apart)) in
      rw rest_is (positive_of_value r (num r) (den r) (of_cross r false (num r) (den r) s.is_finite_lem t refl) (omega (arith, l, den_pos r)))

-- ---- THE INVERSE OF erf BETWEEN 0 AND 1
pub erfinv_number : (e : Float) → T (positive e) → T (fits binary64 e) → lt e one ≡ true → NanOr 78 (erfinv e)
unfolding erfinv
erfinv_number e P F L =
    by_test (NanOr 78) (lt (abs e) (two ⊗ u_max))
    (λ h. inr (small_widen 78 (small_mul (midrange_small e P h) root_half (lit≤ tt)) (lit≤ tt)))
    (λ h. rw (positive_tests e P).1
    (nan_or_mul (nan_or_neg (low_number (e ⊗ neg half ⊕ half) (rest_positive e P F L) (add-fits binary64 (e ⊗ neg half) half))) root_half (lit≤ tt)))
  where
    root_half : Small 0 frac1_sqrt2
    root_half = unfold of_bits in small_of 0 frac1_sqrt2 tt
