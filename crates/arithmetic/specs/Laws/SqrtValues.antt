-- `sqrt` of a value, by the fraction that it equals. Assumes nothing.
use Rattle.std.specs.Prelude.{◌≡◌, ℕ, zero, suc, ◌*◌, ◌^◌, ◌<◌, true, false, ℤ, ◌≢◌, refl, Float}
use Rattle.std.proofs.Common.{sym, ap, ◌∙◌, subst, lt_irrefl, mul-pos, zero-mul, mul_assoc, mul_right_comm, true≢false}
use Rattle.std.proofs.Math.Nat.{div-eq_of_eq-mul_left}
use Rattle.std.proofs.lemmas.Bool.{false≢true}
use Rattle.std.specs.Float.{nan, inf, fin}
use Rattle.std.specs.Float.Ieee.{up, down}
use Rattle.std.specs.Float.Ieee.Fits.{down_pos}
use Rattle.std.specs.Float.Ieee.Exact.{HasValue}
use Rattle.arithmetic.specs.Sqrt.{sqrt_units, sqrt}

-- a zero equals no fraction above zero
no_zero : (e : ℤ) (A c : ℕ) → 0 < A → zero * up e * c ≢ A * down e
no_zero e A c h k = lt_irrefl 0 (subst (λ (x : ℕ). 0 < x) (sym k ∙ ap (λ (x : ℕ). x * c) (zero-mul (up e)) ∙ zero-mul c) (mul-pos h (down_pos e)))

-- x is A units of 2 ^ -1074, above zero
pub sqrt_of : (x : Float) (A : ℕ) → 0 < A → HasValue x false A (2 ^ 1074) → sqrt x ≡ sqrt_units (A * 2 ^ 1074)
unfolding sqrt
sqrt_of nan A h v = absurd v
sqrt_of (inf s) A h v = absurd v
sqrt_of (fin true m e) A h v = absurd (true≢false v.0)
sqrt_of (fin false zero e) A h v = absurd (no_zero e A (2 ^ 1074) h v.1)
sqrt_of (fin false (suc m) e) A h v =
    ap sqrt_units (div-eq_of_eq-mul_left (down_pos e)
    (sym (mul_assoc (suc m * up e) (2 ^ 1074) (2 ^ 1074))
    ∙ ap (λ (z : ℕ). z * 2 ^ 1074) v.1
    ∙ mul_right_comm A (down e) (2 ^ 1074)))

-- x is below zero
pub sqrt_below : (x : Float) (A c : ℕ) → 0 < A → HasValue x true A c → sqrt x ≡ nan
unfolding sqrt
sqrt_below nan A c h v = absurd v
sqrt_below (inf s) A c h v = absurd v
sqrt_below (fin false m e) A c h v = absurd (false≢true v.0)
sqrt_below (fin true zero e) A c h v = absurd (no_zero e A c h v.1)
sqrt_below (fin true (suc m) e) A c h v = refl
