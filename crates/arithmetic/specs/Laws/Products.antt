-- A product of values scaled by 2 ^ j and by 2 ^ k is scaled by 2 ^ (j + k), in the normal range; a quotient of two values scaled alike is
-- the same quotient, in any range. Assumes nothing.
use Rattle.std.specs.Prelude.{◌≡◌, ℕ, ◌+◌, ◌*◌, ◌^◌, ◌<◌, Bool, true, false, cond, not, T, ℤ, ◌==◌, refl, Float}
use Rattle.std.proofs.Common.{sym, ap, ◌∙◌, subst, inl, inr, mul-one, mul_assoc, mul_comm, mul_left_comm, mul-pos, eq-zero-or-pos, zero-lt-suc, true≢false, pow-add, pow_pos}
use Rattle.std.proofs.Math.Nat.{mul-mul-mul_comm}
use Rattle.std.proofs.lemmas.Bool.{false≢true}
use Rattle.std.specs.Float.{nan, inf, Format}
use Rattle.std.specs.Float.Ieee.{unlike, up, round, mul, div}
use Rattle.std.specs.Float.Ieee.Fits.{up_pos, eq→eqb}
use Rattle.std.specs.Float.Ieee.Scale.{finite, round_same}
use Rattle.std.specs.Float.Ieee.Positive.{num, den, den_pos}
use Rattle.arithmetic.specs.Laws.Ratio.{eqb_ratio, zero_ratio}
use Rattle.arithmetic.specs.Basic.{is_sign_minus}
use Rattle.arithmetic.specs.Laws.Times.{Times, both_finite}
use Rattle.arithmetic.specs.Laws.Rounding.{Safe, round_times}

-- ---- the product
pub mul_is : (f : Format) (x y : Float) → T (finite x) → T (finite y)
    → mul f x y ≡ round f (unlike (is_sign_minus x) (is_sign_minus y)) (num x * num y) (den x * den y)
unfolding mul
mul_is f = both_finite _ (λ s m e t n d. refl)

pub product_ratio : (nx dx ny dy nx' dx' ny' dy' s t r : ℕ) → r ≡ s * t → nx' * dx ≡ nx * s * dx' → ny' * dy ≡ ny * t * dy'
    → nx' * ny' * (dx * dy) ≡ nx * ny * (r * (dx' * dy'))
product_ratio nx dx ny dy nx' dx' ny' dy' s t r R p q =
    mul-mul-mul_comm nx' ny' dx dy
    ∙ ap (λ (z : ℕ). z * (ny' * dy)) p
    ∙ ap (λ (z : ℕ). nx * s * dx' * z) q
    ∙ (let e : nx * s * dx' * (ny * t * dy') ≡ nx * ny * (s * t * (dx' * dy')) = simp (mul_assoc, mul_comm, mul_left_comm) in e)
    ∙ ap (λ (z : ℕ). nx * ny * (z * (dx' * dy'))) (sym R)

-- where the exact product of the smaller pair is in the normal range, or a whole number of the format's smallest values, and that of the larger
-- pair does not overflow
pub mul_times : (f : Format) (j k : ℕ) (x y x' y' : Float) → Times j x x' → Times k y y' → Safe f (num x * num y) (den x * den y)
    → T (finite (mul f x' y')) → Times (j + k) (mul f x y) (mul f x' y')
mul_times f j k x y x' y' h g S t =
    let u = unlike (is_sign_minus x) (is_sign_minus y) in
    let big : mul f x' y' ≡ round f u (num x' * num y') (den x' * den y') = mul_is f x' y' h.finite_r g.finite_r ∙ rw (h.sign, g.sign) in
    rw (mul_is f x y h.finite_l g.finite_l, big)
    (round_times f u (j + k) (num x * num y) (den x * den y) (num x' * num y') (den x' * den y')
    (mul-pos (den_pos x) (den_pos y)) (mul-pos (den_pos x') (den_pos y'))
    (product_ratio (num x) (den x) (num y) (den y) (num x') (den x') (num y') (den y') (2 ^ j) (2 ^ k) (2 ^ (j + k)) (pow-add 2 j k) h.value g.value) S
    (subst (λ (z : Float). T (finite z)) big t))

-- ---- the quotient: of zeros NaN, by a zero infinite, else rounded
abbrev pub quotient : Format → Bool → ℕ → ℕ → ℕ → ℕ → Bool → Bool → Float
quotient f u nx dx ny dy i j = cond j (cond i nan (inf u)) (round f u (nx * dy) (ny * dx))

zero_test : (m : ℕ) (e : ℤ) → (m == 0) ≡ (m * up e == 0)
zero_test m e = sym (eqb_ratio 1 (up e) (zero-lt-suc 0) (up_pos e) m 0 (m * up e) 0 (mul-one (m * up e)) (zero_ratio 1 (up e)))

pub div_is : (f : Format) (x y : Float) → T (finite x) → T (finite y)
    → div f x y ≡ quotient f (unlike (is_sign_minus x) (is_sign_minus y)) (num x) (den x) (num y) (den y) (num x == 0) (num y == 0)
unfolding div
div_is f = both_finite _ (λ s m e t n d. rw (zero_test m e, zero_test n d))

zero_times : (k : ℕ) (x x' : Float) → Times k x x' → (num x' == 0) ≡ (num x == 0)
zero_times k x x' h =
    eqb_ratio (den x) (2 ^ k * den x') (den_pos x) (mul-pos (pow_pos k) (den_pos x')) (num x) 0 (num x') 0
    (h.value ∙ mul_assoc (num x) (2 ^ k) (den x')) (zero_ratio (den x) (2 ^ k * den x'))

quotient_same : (nx dx ny dy nx' dx' ny' dy' t : ℕ) → nx' * dx ≡ nx * t * dx' → ny' * dy ≡ ny * t * dy' → nx' * dy' * (ny * dx) ≡ nx * dy * (ny' * dx')
quotient_same nx dx ny dy nx' dx' ny' dy' t p q =
    (let e : nx' * dy' * (ny * dx) ≡ nx' * dx * (ny * dy') = simp (mul_assoc, mul_comm, mul_left_comm) in e)
    ∙ ap (λ (z : ℕ). z * (ny * dy')) p
    ∙ (let e : nx * t * dx' * (ny * dy') ≡ ny * t * dy' * (nx * dx') = simp (mul_assoc, mul_comm, mul_left_comm) in e)
    ∙ ap (λ (z : ℕ). z * (nx * dx')) (sym q)
    ∙ (let e : ny' * dy * (nx * dx') ≡ nx * dy * (ny' * dx') = simp (mul_assoc, mul_comm, mul_left_comm) in e)

not_zero : (n : ℕ) → T (not (n == 0)) → 0 < n
not_zero n t = elim (eq-zero-or-pos n) [ inl e ↦ absurd (lib.Dec.T_not (n == 0) t (eq→eqb e)) | inr p ↦ p ]

pub div_times : (f : Format) (k : ℕ) (x y x' y' : Float) → Times k x x' → Times k y y' → div f x' y' ≡ div f x y
div_times f k x y x' y' h g =
    rw (div_is f x' y' h.finite_r g.finite_r, div_is f x y h.finite_l g.finite_l, h.sign, g.sign, zero_times k x x' h)
    (go (num y == 0) (num y' == 0) (zero_times k y y' g) (not_zero (num y)) (not_zero (num y')))
  where
    sign : Bool
    sign = unlike (is_sign_minus x) (is_sign_minus y)

    go : (i i' : Bool) → i' ≡ i → (T (not i) → 0 < num y) → (T (not i') → 0 < num y')
        → quotient f sign (num x') (den x') (num y') (den y') (num x == 0) i' ≡ quotient f sign (num x) (den x) (num y) (den y) (num x == 0) i
    go true true e p q = refl
    go true false e p q = absurd (false≢true e)
    go false true e p q = absurd (true≢false e)
    go false false e p q =
        round_same f sign (num x' * den y') (num y' * den x') (num x * den y) (num y * den x) (mul-pos (q tt) (den_pos x')) (mul-pos (p tt) (den_pos x))
        (quotient_same (num x) (den x) (num y) (den y) (num x') (den x') (num y') (den y') (2 ^ k) h.value g.value)
