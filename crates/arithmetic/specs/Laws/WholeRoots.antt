-- `root` is the whole part of a square root, `closest_root` the nearest whole number to it, and both scale by powers of four. Assumes nothing.
use Rattle.std.specs.Prelude.{◌≡◌, ℕ, zero, suc, ◌+◌, ◌-◌, ◌*◌, ◌/◌, ◌^◌, ◌<◌, ◌≤◌, Bool, false, cond, nat_le, nat_lt, refl}
use Rattle.std.proofs.Common.{sym, ap, ◌∙◌, subst, div-one, zero-lt-suc, lt_of_lt_of_le, lt_of_not-le, le_antisymm, mul-le-mul, mul_assoc, pow-suc, zero-add, arith, leb-true, leb-false, ltb-true, ltb-false, pow-add, pow_pos}
use Rattle.std.proofs.Math.Nat.{mul-div-mul_right}
use Rattle.std.specs.Float.Ieee.{size, odd}
use Rattle.std.specs.Float.Ieee.Digits.{size-le}
use Rattle.arithmetic.specs.Sqrt.{root, closest_root, sqrt_units}
use Rattle.arithmetic.specs.Laws.Numbers.{ltb_mul, four_pos, size_gt, size_four}
use Rattle.arithmetic.specs.Laws.Choices.{by_test}

-- q is the whole part of √n
abbrev pub IsRoot : ℕ → ℕ → Type 0
IsRoot n q = (q * q ≤ n) × (n < (q + 1) * (q + 1))

root_is : (d n : ℕ) → n < 4 ^ d → IsRoot n (root d n)
unfolding root
root_is zero n h = omega arith
root_is (suc d) n h = go (root d (n / 4)) (root_is d (n / 4) (quarter (4 ^ d) (rw pow-suc at h)))
  where
    quarter : (p : ℕ) → n < p * 4 → n / 4 < p
    quarter p h = omega arith

    more : (r : ℕ) → IsRoot (n / 4) r → (2 * r + 1) * (2 * r + 1) ≤ n → IsRoot n (2 * r + 1)
    more r h k = omega arith

    same : (r : ℕ) → IsRoot (n / 4) r → n < (2 * r + 1) * (2 * r + 1) → IsRoot n (2 * r)
    same r h k = omega arith

    go : (r : ℕ) → IsRoot (n / 4) r → IsRoot n (cond (nat_le ((2 * r + 1) * (2 * r + 1)) n) (2 * r + 1) (2 * r))
    go r i =
        let s = (2 * r + 1) * (2 * r + 1) in
        by_test (IsRoot n) (nat_le s n) (λ e. more r i (leb-true s n e)) (λ e. same r i (leb-false s n e))

-- ---- r is the whole number nearest to √n: (r - 1 / 2)² < n < (r + 1 / 2)², over whole numbers
abbrev pub Nearest : ℕ → ℕ → Type 0
Nearest n r = (r * r < n + r) × (n ≤ r * r + r)

closest_root_is : (a k q : ℕ) → root 53 (a / 4 ^ k) ≡ q → closest_root a k ≡ cond (nat_lt ((2 * q + 1) * (2 * q + 1) * 4 ^ k) (4 * a)) (q + 1) q
unfolding closest_root
closest_root_is a k q e = ap (λ (r : ℕ). cond (nat_lt ((2 * r + 1) * (2 * r + 1) * 4 ^ k) (4 * a)) (r + 1) r) e

pub closest_is_nearest : (n : ℕ) → 0 < n → n < 4 ^ 53 → Nearest n (closest_root n 0)
closest_is_nearest n p hi =
    subst (λ (r : ℕ). Nearest n r) (sym (closest_root_is n 0 (root 53 n) (ap (root 53) (div-one n)))) (go (root 53 n) (root_is 53 n hi))
  where
    some : (q : ℕ) → IsRoot n q → 0 < q
    some zero h = absurd (no p h.1)
      where
        no : 0 < n → n < 1 → ⊥
        no a b = omega arith
    some (suc q) h = zero-lt-suc q

    up : (q : ℕ) → IsRoot n q → (2 * q + 1) * (2 * q + 1) * 1 < 4 * n → Nearest n (q + 1)
    up q h k = omega arith

    stay : (q : ℕ) → 0 < q → IsRoot n q → 4 * n ≤ (2 * q + 1) * (2 * q + 1) * 1 → Nearest n q
    stay q s h k = omega arith

    go : (q : ℕ) → IsRoot n q → Nearest n (cond (nat_lt ((2 * q + 1) * (2 * q + 1) * 1) (4 * n)) (q + 1) q)
    go q h =
        let s = (2 * q + 1) * (2 * q + 1) * 1 in
        by_test (Nearest n) (nat_lt s (4 * n)) (λ e. up q h (ltb-true s (4 * n) e)) (λ e. stay q (some q h) h (ltb-false s (4 * n) e))

-- there is only one
near_le : (n p q : ℕ) → p * p < n + p → n ≤ q * q + q → p ≤ q
near_le n zero q h k = omega arith
near_le n (suc p) q h k = lt_of_not-le (λ (g : q ≤ p). no (mul-le-mul g g) g)
  where
    no : q * q ≤ p * p → q ≤ p → ⊥
    no a b = omega arith

pub nearest_root : (n r : ℕ) → 0 < n → n < 4 ^ 53 → Nearest n r → closest_root n 0 ≡ r
nearest_root n r p hi h =
    let k = closest_is_nearest n p hi in
    le_antisymm (near_le n (closest_root n 0) r k.0 h.1) (near_le n r (closest_root n 0) h.0 k.1)

-- ---- 4 ^ j times a number: the numbers that `closest_root` looks at are the same
pub closest_four : (a k j : ℕ) → closest_root (a * 4 ^ j) (k + j) ≡ closest_root a k
closest_four a k j =
    let q = root 53 (a / 4 ^ k) in
    closest_root_is (a * 4 ^ j) (k + j) q (ap (λ (x : ℕ). root 53 (a * 4 ^ j / x)) (pow-add 4 k j) ∙ ap (root 53) (mul-div-mul_right a (4 ^ k) (four_pos j)))
    ∙ ap (λ (b : Bool). cond b (q + 1) q) (tests ((2 * q + 1) * (2 * q + 1)))
    ∙ sym (closest_root_is a k q refl)
  where
    tests : (s : ℕ) → nat_lt (s * 4 ^ (k + j)) (4 * (a * 4 ^ j)) ≡ nat_lt (s * 4 ^ k) (4 * a)
    tests s = rw (pow-add 4 k j, ← mul_assoc s (4 ^ k) (4 ^ j), ← mul_assoc 4 a (4 ^ j)) (ltb_mul (s * 4 ^ k) (4 * a) (4 ^ j) (four_pos j))

pub sqrt_units_is : (a : ℕ) → sqrt_units a ≡ odd 53 false (closest_root a ((size a + 1) / 2 - 53)) ((size a + 1) / 2 - 53) 1074
unfolding sqrt_units
sqrt_units_is a = refl

-- √(n * 4 ^ k) units, rounded, for an n of 105 or 106 digits
pub units_at : (n k : ℕ) → 4 ^ 52 ≤ n → n < 4 ^ 53 → sqrt_units (n * 4 ^ k) ≡ odd 53 false (closest_root n 0) k 1074
units_at n k lo hi =
    sqrt_units_is (n * 4 ^ k)
    ∙ rw (size_four n k (lt_of_lt_of_le (pow_pos 104) lo), dropped (size n) (size_gt n 104 lo) (size-le n 106 hi))
    (ap (λ (r : ℕ). odd 53 false r k 1074) (ap (closest_root (n * 4 ^ k)) (sym (zero-add k)) ∙ closest_four n 0 k))
  where
    dropped : (z : ℕ) → 104 < z → z ≤ 106 → (z + 2 * k + 1) / 2 - 53 ≡ k
    dropped z a b = omega arith
