-- How large and how small a root is: at most 2 ^ (j + 1) where x is at most 4 ^ j, and at least 2 ^ -(j + 1) where x is at least 4 ^ -j.
-- Assumes nothing.
use Rattle.std.specs.Prelude.{◌≡◌, ℕ, suc, ◌+◌, ◌-◌, ◌*◌, ◌^◌, ◌<◌, ◌≤◌, T, Float}
use Rattle.std.proofs.Common.{sym, ap, ◌∙◌, subst, inl, inr, le_trans, le_of_eq, le_of_lt, le_of_suc-le-suc, mul_comm, mul-le-mul, mul-le-mul_left, mul-le-mul_right, le_of_mul-le-mul_right, pow-suc, arith, pow_pos, pow-add, pow_mono}
use Rattle.std.specs.Float.{binary64}
use Rattle.std.specs.Float.Ieee.{fits}
use Rattle.std.specs.Float.Ieee.Positive.{num, den, den_pos, positive, value→cross}
use Rattle.arithmetic.specs.Sqrt.{sqrt}
use Rattle.arithmetic.specs.Laws.Numbers.{lt_or_le, four_square}
use Rattle.arithmetic.specs.Laws.Times.{positive_sign}
use Rattle.arithmetic.specs.Laws.PowerBounds.{Small, Plus, Between}
use Rattle.arithmetic.specs.Laws.SqrtNearest.{NearestRoot, sqrt_is_nearest}
use Rattle.arithmetic.specs.Laws.SqrtBounds.{sqrt_finite, sqrt_positive}

-- ---- whole numbers
root_le : (x y : ℕ) → x * x ≤ y * y → x ≤ y
root_le x y h = elim (lt_or_le y x) [
  | inl g ↦ let s : suc y * suc y ≤ x * x = mul-le-mul g g in absurd (omega arith)
  | inr g ↦ g
]

-- q * K is the nearest root of a: bounds of a by squares bound it, with a factor of 2 for the rounding
at_least : (U B a q K : ℕ) → 1 ≤ q → U * U ≤ a * (B * B) → 4 * a < (2 * q + 1) * (2 * q + 1) * (K * K) → U ≤ q * K * (2 * B)
at_least U B a q K p h g =
    let t : 2 * q + 1 ≤ 4 * q = omega arith in
    let s : (2 * q + 1) * (2 * q + 1) * (K * K) ≤ 4 * q * (4 * q) * (K * K) = mul-le-mul_right (K * K) (mul-le-mul t t) in
    let b : a ≤ 4 * (q * q * (K * K)) = omega arith in
    let c : a * (B * B) ≤ 4 * (q * q * (K * K)) * (B * B) = mul-le-mul_right (B * B) b in
    root_le U (q * K * (2 * B)) (omega arith)

at_most : (U B a q K : ℕ) → 1 ≤ q → a ≤ U * U * (B * B) → (2 * q - 1) * (2 * q - 1) * (K * K) < 4 * a → q * K ≤ U * (2 * B)
at_most U B a q K p h g =
    let t : q ≤ 2 * q - 1 = omega arith in
    let s : q * q * (K * K) ≤ (2 * q - 1) * (2 * q - 1) * (K * K) = mul-le-mul_right (K * K) (mul-le-mul t t) in
    root_le (q * K) (U * (2 * B)) (omega arith)

-- n / d and a / U are one number: a bound of it by B
across_least : (n d U a B : ℕ) → 0 < d → n * U ≡ a * d → d ≤ n * B → U ≤ a * B
across_least n d U a B D e h =
    let s : U * d ≤ U * (n * B) = mul-le-mul_left U h in
    let t : n * U * B ≡ a * d * B = ap (λ (z : ℕ). z * B) e in
    let u : U * d ≤ a * B * d = omega arith in
    le_of_mul-le-mul_right u D

across_most : (n d U a B : ℕ) → 0 < d → n * U ≡ a * d → n ≤ B * d → a ≤ B * U
across_most n d U a B D e h =
    let s : n * U ≤ B * d * U = mul-le-mul_right U h in
    let u : a * d ≤ B * U * d = omega arith in
    le_of_mul-le-mul_right u D

-- ---- the root of x
module _ (x : Float) (p : T (positive x)) (F : T (fits binary64 x)) (j : ℕ) where
  abbrev root : NearestRoot x (sqrt x)
  root = sqrt_is_nearest x p F

  abbrev q : ℕ
  q = root.q

  abbrev K : ℕ
  K = 2 ^ root.k

  some : 1 ≤ q
  some = le_trans (pow_pos 52) root.q_low

  squares : 4 ^ root.k ≡ K * K
  squares = four_square root.k ∙ pow-add 2 root.k root.k

  cross_x : num x * (2 ^ 1074 * 2 ^ 1074) ≡ root.a * den x
  cross_x = value→cross x root.a (2 ^ 2148) root.value

  cross_root : num (sqrt x) * 2 ^ 1074 ≡ q * K * den (sqrt x)
  cross_root = value→cross (sqrt x) (q * K) (2 ^ 1074) root.root_value

  twice : 2 * 2 ^ j ≡ 2 ^ suc j
  twice = mul_comm 2 (2 ^ j) ∙ sym (pow-suc 2 j)

  root_least : den x ≤ num x * 2 ^ (j + j) → den (sqrt x) ≤ num (sqrt x) * 2 ^ suc j
  root_least h =
      rw (← twice)
      (across_least (q * K) (2 ^ 1074) (den (sqrt x)) (num (sqrt x)) (2 * 2 ^ j) (pow_pos 1074) (sym cross_root)
      (at_least (2 ^ 1074) (2 ^ j) root.a q K some
      (across_least (num x) (den x) (2 ^ 1074 * 2 ^ 1074) root.a (2 ^ j * 2 ^ j) (den_pos x) cross_x
      (subst (λ (z : ℕ). den x ≤ num x * z) (pow-add 2 j j) h))
      (subst (λ (z : ℕ). 4 * root.a < (2 * q + 1) * (2 * q + 1) * z) squares root.below)))

  root_most : num x ≤ 2 ^ (j + j) * den x → num (sqrt x) ≤ 2 ^ suc j * den (sqrt x)
  root_most h =
      rw (← twice)
      (across_most (q * K) (2 ^ 1074) (den (sqrt x)) (num (sqrt x)) (2 * 2 ^ j) (pow_pos 1074) (sym cross_root)
      (le_trans
      (at_most (2 ^ 1074) (2 ^ j) root.a q K some
      (le_trans
      (across_most (num x) (den x) (2 ^ 1074 * 2 ^ 1074) root.a (2 ^ j * 2 ^ j) (den_pos x) cross_x
      (subst (λ (z : ℕ). num x ≤ z * den x) (pow-add 2 j j) h))
      (le_of_eq (mul_comm (2 ^ j * 2 ^ j) _)))
      (subst (λ (z : ℕ). (2 * q - 1) * (2 * q - 1) * z < 4 * root.a) squares root.above))
      (le_of_eq (mul_comm (2 ^ 1074) (2 * 2 ^ j)))))

  -- no root is above 2 ^ 512
  root_under : num (sqrt x) ≤ 2 ^ 512 * den (sqrt x)
  root_under =
      across_most (q * K) (2 ^ 1074) (den (sqrt x)) (num (sqrt x)) (2 ^ 512) (pow_pos 1074) (sym cross_root)
      (mul-le-mul (le_of_lt root.q_high) (pow_mono (le_of_suc-le-suc root.k_lt)))

  plus_of : (k : ℕ) → num (sqrt x) ≤ 2 ^ k * den (sqrt x) → Plus k (sqrt x)
  plus_of k h = record { small = record { is_finite_lem = sqrt_finite x p F; bound = h }; sign = positive_sign (sqrt x) (sqrt_positive x p F) }

  pub root_plus : Small (j + j) x → Plus (suc j) (sqrt x)
  root_plus h = plus_of (suc j) (root_most h.bound)

  pub root_between : den x ≤ num x * 2 ^ (j + j) → Between (suc j) 512 (sqrt x)
  root_between h = record { plus = plus_of 512 root_under; least = root_least h }
