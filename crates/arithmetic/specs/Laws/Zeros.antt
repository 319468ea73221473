-- The two zeros of binary64, and a zero added to another value; values that are equal and not zero are the same. Assumes nothing.
use Rattle.std.specs.Prelude.{◌≡◌, ℕ, suc, ◌*◌, ◌<◌, Bool, true, false, ◌||◌, T, ℤ, pos, ◌==◌, ◌≢◌, refl, Float}
use Rattle.std.proofs.Common.{sym, ap, ◌∙◌, subst, zero-mul, zero-add, mul-one, one-mul, mul-pos, zero-lt-suc, lt-ltb, eqb→eq, pow_pos}
use Rattle.std.proofs.Math.Nat.{sub-zero, eq_of_mul-eq-mul_right}
use Rattle.std.specs.Bool.{beq}
use Rattle.std.specs.Float.{fin, binary64}
use Rattle.std.specs.Float.Ieee.{up, down, round, sum, level, eq, fits, of_bits}
use Rattle.std.specs.Float.Ieee.Fits.{up_pos, down_pos, and_l, and_r}
use Rattle.std.specs.Float.Ieee.Scale.{finite}
use Rattle.std.specs.Float.Ieee.Positive.{num, den, den_pos}
use Rattle.arithmetic.specs.Operations.{◌⊕◌, plus_zero}
use Rattle.arithmetic.specs.Basic.{is_sign_minus}
use Rattle.arithmetic.specs.Laws.Times.{of_cross}
use Rattle.arithmetic.specs.Laws.Compare.{eq_is}
use Rattle.arithmetic.specs.Laws.Patterns.{value_unique}
use Rattle.arithmetic.specs.Laws.Representable.{round_self}
use Rattle.arithmetic.specs.Laws.Sums.{add_is, sum_swap}

abbrev pub zero_of : Bool → Float
zero_of s = fin s 0 (pos 0)

pub plus_zero_is : plus_zero ≡ zero_of false
unfolding of_bits
plus_zero_is = refl

zero_fits : (s : Bool) → T (fits binary64 (zero_of s))
unfolding fits
zero_fits s = tt

-- a zero that fits is one of the two
pub zero_by_sign : (p : Float) → T (fits binary64 p) → T (finite p) → num p ≡ 0 → p ≡ zero_of (is_sign_minus p)
zero_by_sign p F h e =
    let s = is_sign_minus p in
    value_unique binary64 p (zero_of s) s 0 1 (pow_pos 0) F (zero_fits s)
    (of_cross p s 0 1 h refl (mul-one (num p) ∙ e ∙ sym (zero-mul (den p)))) (refl, refl)

-- ---- two values that are equal are the same, or both are zero
pub equal_same : (x y : Float) → T (fits binary64 x) → T (fits binary64 y) → T (finite x) → T (finite y) → T (eq x y) → (num x ≢ 0) → x ≡ y
equal_same x y F G p q h n =
    let s = is_sign_minus x in
    let t = is_sign_minus y in
    let a = num x * den y in
    let b = num y * den x in
    let l : T (level s a t b) = subst T (eq_is x y p q) h in
    let same : a ≡ b = eqb→eq a b (and_l (a == b) (beq s t || a == 0) l) in
    let sign : t ≡ s = go s t (a == 0) (and_r (a == b) (beq s t || a == 0) l) (λ z. n (first_zero (num x) (den y) (den_pos y) (eqb→eq a 0 z))) in
    value_unique binary64 x y s (num x) (den x) (den_pos x) F G (of_cross x s (num x) (den x) p refl refl)
    (of_cross y s (num x) (den x) q sign (sym same))
  where
    go : (s t z : Bool) → T (beq s t || z) → (T z → ⊥) → t ≡ s
    go true true z h n = refl
    go false false z h n = refl
    go true false z h n = absurd (n h)
    go false true z h n = absurd (n h)

    first_zero : (m d : ℕ) → 0 < d → m * d ≡ 0 → m ≡ 0
    first_zero m d D e = eq_of_mul-eq-mul_right d D m 0 (e ∙ sym (zero-mul d))

-- a zero added to another value
sum_zero : (u t : Bool) (a c : ℕ) → 0 < a → sum binary64 u 0 t a c ≡ round binary64 t a c
unfolding sum
sum_zero true true a c A = ap (λ (z : ℕ). round binary64 true z c) (zero-add a)
sum_zero false false a c A = ap (λ (z : ℕ). round binary64 false z c) (zero-add a)
sum_zero true false a c A = rw (lt-ltb 0 a A, sub-zero a)
sum_zero false true a c A = rw (lt-ltb 0 a A, sub-zero a)

sum_value : (u t : Bool) (m : ℕ) (e : ℤ) → T (fits binary64 (fin t (suc m) e)) → sum binary64 u 0 t (suc m * up e) (down e) ≡ fin t (suc m) e
sum_value u t m e F =
    sum_zero u t (suc m * up e) (down e) (mul-pos (zero-lt-suc m) (up_pos e))
    ∙ round_self binary64 (fin t (suc m) e) t (suc m * up e) (down e) (down_pos e) F (refl, refl)

pub zero_plus : (u t : Bool) (m : ℕ) (e : ℤ) → T (fits binary64 (fin t (suc m) e)) → zero_of u ⊕ fin t (suc m) e ≡ fin t (suc m) e
zero_plus u t m e F =
    add_is binary64 (zero_of u) (fin t (suc m) e) tt tt
    ∙ rw (zero-mul (down e), mul-one (suc m * up e), one-mul (down e)) (sum_value u t m e F)

pub plus_zero_lem : (u t : Bool) (m : ℕ) (e : ℤ) → T (fits binary64 (fin t (suc m) e)) → fin t (suc m) e ⊕ zero_of u ≡ fin t (suc m) e
plus_zero_lem u t m e F =
    add_is binary64 (fin t (suc m) e) (zero_of u) tt tt
    ∙ rw (zero-mul (down e), mul-one (suc m * up e), mul-one (down e)) (sum_swap binary64 t u (suc m * up e) 0 (down e) ∙ sum_value u t m e F)
