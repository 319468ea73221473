-- A number times or over a value that is finite and above zero is no NaN; a value over 1 is itself; and 2 / √x, which is finite and at least 2 ^ -1022
-- for every x that is finite and above zero. Assumes nothing.
use Rattle.std.specs.Prelude.{◌≡◌, ℕ, zero, suc, ◌*◌, ◌^◌, ◌<◌, ◌≤◌, Bool, true, false, T, pos, nat_lt, refl, Float}
use Rattle.std.proofs.Common.{sym, ap, ◌∙◌, subst, le_trans, le_of_eq, le_of_lt, le_of_suc-le-suc, one-mul, mul-one, mul_assoc, mul_comm, mul_right_comm, mul-pos, mul-le-mul, mul-le-mul_left, mul-le-mul_right, le_of_mul-le-mul_right, true≢false, lit≤, ltb→lt, pow_pos, pow_mono}
use Rattle.std.proofs.lemmas.Bool.{false≢true}
use Rattle.std.specs.Float.{nan, inf, fin, Format}
use Rattle.std.specs.Float.Ieee.{binary64, prec, low, up, down, unlike, odd, units, round, mul, div, le, is_nan, fits, of_bits}
use Rattle.std.specs.Float.Ieee.Fits.{div-fits}
use Rattle.std.specs.Float.Ieee.Order.{round_mono}
use Rattle.std.specs.Float.Ieee.Scale.{finite, overflow}
use Rattle.std.specs.Float.Ieee.Positive.{num, den, den_pos, positive, positive-finite, value→cross}
use Rattle.arithmetic.specs.Operations.{◌⊘◌, one, two, min_positive}
use Rattle.arithmetic.specs.Basic.{is_sign_minus}
use Rattle.arithmetic.specs.Sqrt.{sqrt}
use Rattle.arithmetic.specs.Laws.Choices.{in_both}
use Rattle.arithmetic.specs.Laws.Times.{of_cross, positive_sign, num_positive}
use Rattle.arithmetic.specs.Laws.Representable.{round_self, grid_under}
use Rattle.arithmetic.specs.Laws.Sums.{round_finite}
use Rattle.arithmetic.specs.Laws.Products.{div_is}
use Rattle.arithmetic.specs.Laws.ScaledRatios.{PositiveNormal, min_positive_is, positive_zero}
use Rattle.arithmetic.specs.Laws.SqrtNearest.{NearestRoot, sqrt_is_nearest}
use Rattle.arithmetic.specs.Laws.SqrtBounds.{sqrt_finite, sqrt_positive}

-- ---- what is no NaN
odd_no_nan : (d : ℕ) (s : Bool) (q k l : ℕ) → is_nan (odd d s q k l) ≡ false
unfolding odd is_nan
odd_no_nan d s zero k l = refl
odd_no_nan d s (suc q) k l = refl

units_no_nan : (f : Format) (s : Bool) (q k : ℕ) → is_nan (units f s q k) ≡ false
unfolding units is_nan
units_no_nan f s q k =
    in_both (λ (z : Float). is_nan z ≡ false) (nat_lt (q * 2 ^ k) (overflow f)) (odd_no_nan (suc (prec f)) s q k (low f)) refl

pub round_no_nan : (f : Format) (s : Bool) (a c : ℕ) → is_nan (round f s a c) ≡ false
unfolding round
round_no_nan f s a c = units_no_nan f s _ _

pub at_least_no_nan : (x v : Float) → le x v ≡ true → is_nan v ≡ false
unfolding le is_nan
at_least_no_nan nan nan h = absurd (false≢true h)
at_least_no_nan (inf s) nan h = absurd (false≢true h)
at_least_no_nan (fin s m e) nan h = absurd (false≢true h)
at_least_no_nan x (inf t) h = refl
at_least_no_nan x (fin t n d) h = refl

-- ---- a number over a value that is finite and above zero
pub over_positive : (x y : Float) → T (finite x) → T (positive y) → x ⊘ y ≡ round binary64 (is_sign_minus x) (num x * den y) (num y * den x)
over_positive x y p q =
    div_is binary64 x y p (positive-finite y q) ∙ rw (positive_sign y q, positive_zero (num y) (num_positive y q), unlike_plus (is_sign_minus x))
  where
    unlike_plus : (s : Bool) → unlike s false ≡ s
    unlike_plus true = refl
    unlike_plus false = refl

-- over 1 it is itself
pub over_one : (x : Float) → T (fits binary64 x) → T (finite x) → x ⊘ one ≡ x
unfolding of_bits
over_one x F p =
    over_positive x one p tt
    ∙ round_self binary64 x (is_sign_minus x) (num x * 1) (1 * den x) (mul-pos (pow_pos 0) (den_pos x)) F
    (of_cross x (is_sign_minus x) (num x * 1) (1 * den x) p refl (sym (mul_assoc (num x) 1 (den x))))

pub div_no_nan : (f : Format) (v r : Float) → is_nan v ≡ false → T (positive r) → is_nan (div f v r) ≡ false
unfolding div is_nan
div_no_nan f v nan h p = absurd p
div_no_nan f v (inf t) h p = absurd p
div_no_nan f nan (fin t n d) h p = absurd (true≢false h)
div_no_nan f (inf s) (fin t n d) h p = refl
div_no_nan f (fin s m e) (fin t n d) h p =
    let is : div f (fin s m e) (fin t n d) ≡ round f (unlike s t) (m * up e * down d) (n * up d * down e) =
    div_is f (fin s m e) (fin t n d) tt tt ∙ rw (positive_zero (num (fin t n d)) (num_positive (fin t n d) p)) in
    ap is_nan is ∙ round_no_nan f (unlike s t) (m * up e * down d) (n * up d * down e)

-- ---- a value that is finite and above zero times a number
pub mul_no_nan : (f : Format) (r v : Float) → T (positive r) → is_nan v ≡ false → is_nan (mul f r v) ≡ false
unfolding mul is_nan
mul_no_nan f nan v p h = absurd p
mul_no_nan f (inf t) v p h = absurd p
mul_no_nan f (fin t n d) nan p h = absurd (true≢false h)
mul_no_nan f (fin true n d) (inf s) p h = absurd p
mul_no_nan f (fin false n d) (inf s) p h = rw (positive_zero n (ltb→lt 0 n p)) refl
mul_no_nan f (fin t n d) (fin s m e) p h = round_no_nan f (unlike t s) (n * up d * (m * up e)) (down d * down e)

-- ---- 2 / √x
-- 2 ^ 1023, which no such quotient passes: √x is q * 2 ^ k units of 2 ^ -1074, with q from 2 ^ 52 to 2 ^ 53 and k below 1534
abbrev most : Float
most = fin false 1 (pos 1023)

most_fits : T (fits binary64 most)
unfolding fits
most_fits = tt

-- n / d is the root, of g units
not_over : (n d g : ℕ) → n * 2 ^ 1074 ≡ g * d → 2 ^ 52 ≤ g → 2 * d * 1 ≤ 1 * 2 ^ 1023 * (n * 1)
not_over n d g e h =
    le_of_mul-le-mul_right
    (le_trans (le_of_eq (left d))
    (le_trans (mul-le-mul_right d (mul-le-mul_right (2 ^ 1023) h))
    (le_of_eq (mul_right_comm g (2 ^ 1023) d ∙ ap (λ (z : ℕ). z * 2 ^ 1023) (sym e) ∙ right n))))
    (pow_pos 1074)
  where
    left : (d : ℕ) → 2 * d * 1 * 2 ^ 1074 ≡ 2 ^ 52 * 2 ^ 1023 * d
    left d = ap (λ (z : ℕ). z * 2 ^ 1074) (mul-one (2 * d)) ∙ mul_right_comm 2 d (2 ^ 1074)

    right : (n : ℕ) → n * 2 ^ 1074 * 2 ^ 1023 ≡ 1 * 2 ^ 1023 * (n * 1) * 2 ^ 1074
    right n =
        (let r : n * 2 ^ 1074 * 2 ^ 1023 ≡ 2 ^ 1023 * n * 2 ^ 1074 = simp (mul_assoc, mul_comm) in r)
        ∙ ap (λ (z : ℕ). 2 ^ 1023 * z * 2 ^ 1074) (sym (mul-one n))

not_under : (n d g : ℕ) → n * 2 ^ 1074 ≡ g * d → g ≤ 2 ^ 1586 → 1 * (n * 1) ≤ 2 * d * 2 ^ 1022
not_under n d g e h =
    le_of_mul-le-mul_right
    (le_trans (le_of_eq (ap (λ (z : ℕ). z * 2 ^ 1074) (one-mul (n * 1) ∙ mul-one n) ∙ e))
    (le_trans (mul-le-mul_right d (le_trans h (lit≤ tt))) (le_of_eq (right d))))
    (pow_pos 1074)
  where
    right : (d : ℕ) → 2 * 2 ^ 2096 * d ≡ 2 * d * 2 ^ 1022 * 2 ^ 1074
    right d = mul_right_comm 2 (2 ^ 2096) d ∙ sym (mul_assoc (2 * d) (2 ^ 1022) (2 ^ 1074))

-- with n / d for √x, which is g units
module _ (x : Float) (p : T (positive x)) (F : T (fits binary64 x)) where
  abbrev root : NearestRoot x (sqrt x)
  root = sqrt_is_nearest x p F

  abbrev n : ℕ
  n = num (sqrt x)

  abbrev d : ℕ
  d = den (sqrt x)

  abbrev g : ℕ
  g = root.q * 2 ^ root.k

  cross : n * 2 ^ 1074 ≡ g * d
  cross = value→cross (sqrt x) g (2 ^ 1074) root.root_value

  lower : 2 ^ 52 ≤ g
  lower = le_trans root.q_low (le_trans (le_of_eq (sym (mul-one root.q))) (mul-le-mul_left root.q (pow_pos root.k)))

  upper : g ≤ 2 ^ 1586
  upper = mul-le-mul (le_of_lt root.q_high) (pow_mono (le_of_suc-le-suc root.k_lt))

  some : 0 < n * 1
  some = subst (λ (z : ℕ). 0 < z) (sym (mul-one n)) (num_positive (sqrt x) (sqrt_positive x p F))

  quotient_is : two ⊘ sqrt x ≡ round binary64 false (2 * d) (n * 1)
  unfolding of_bits
  quotient_is =
      div_is binary64 two (sqrt x) tt (sqrt_finite x p F)
      ∙ rw (positive_sign (sqrt x) (sqrt_positive x p F), positive_zero n (num_positive (sqrt x) (sqrt_positive x p F)))

  pub two_over_root : PositiveNormal (two ⊘ sqrt x)
  two_over_root = record {
    held = div-fits binary64 two (sqrt x);
    bounded =
        subst (λ (z : Float). T (finite z)) (sym quotient_is)
        (round_finite binary64 false (2 * d) (n * 1) (grid_under binary64 (2 * d) (n * 1) most some most_fits tt (not_over n d g cross lower)));
    large =
        subst (λ (z : Float). T (le min_positive z)) (sym quotient_is)
        (subst (λ (z : Float). T (le z (round binary64 false (2 * d) (n * 1)))) min_positive_is
        (round_mono binary64 1 (2 ^ 1022) (2 * d) (n * 1) (pow_pos 1022) some (not_under n d g cross upper)));
  }
