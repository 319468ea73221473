-- What `sqrt` is of a finite value above zero: the value of the format nearest to the real root, with all its 53 digits, less than half a unit
-- of the last of them from it. Assumes nothing.
use Rattle.std.specs.Prelude.{◌≡◌, ℕ, ◌+◌, ◌-◌, ◌*◌, ◌/◌, ◌^◌, ◌<◌, ◌≤◌, false, T, Float}
use Rattle.std.proofs.Common.{sym, ap, ◌∙◌, subst, le_trans, le_of_eq, le_of_lt, lt_irrefl, lt_of_lt_of_le, lt_of_le_of_lt, lt_of_not-le, mul_assoc, mul-le-mul_left, mul-le-mul_right, mul-lt-mul_of_pos_right, arith, pow_pos, pow_mono, shl_lt}
use Rattle.std.specs.Float.{binary64}
use Rattle.std.specs.Float.Ieee.{size, odd, fits}
use Rattle.std.specs.Float.Ieee.Digits.{size-lt, size-le, size_reaches}
use Rattle.std.specs.Float.Ieee.Fits.{odd-fits}
use Rattle.std.specs.Float.Ieee.Exact.{HasValue, odd_sign}
use Rattle.std.specs.Float.Ieee.Positive.{positive, positive-finite, first_pos, value_pos}
use Rattle.arithmetic.specs.Sqrt.{closest_root, sqrt_units, sqrt}
use Rattle.arithmetic.specs.Laws.Numbers.{four, four_pos, pow_split, size_gt, size_mul, all_ones}
use Rattle.arithmetic.specs.Laws.Times.{positive_value, rescale}
use Rattle.arithmetic.specs.Laws.Representable.{representable}
use Rattle.arithmetic.specs.Laws.WholeRoots.{closest_is_nearest, units_at}
use Rattle.arithmetic.specs.Laws.SqrtValues.{sqrt_of}

-- r is q * 2 ^ k units of 2 ^ -1074, and x is a units of 2 ^ -2148. The real root of x lies strictly between q - 1 / 2 and q + 1 / 2 times
-- 2 ^ k units.
pub record NearestRoot (x r : Float) : Type 0 where
  pub q : ℕ
  pub k : ℕ
  pub a : ℕ
  pub q_low : 2 ^ 52 ≤ q
  pub q_high : q < 2 ^ 53
  pub k_lt : k < 1534
  pub root_is : r ≡ odd 53 false q k 1074
  pub root_value : HasValue r false (q * 2 ^ k) (2 ^ 1074)
  pub value : HasValue x false a (2 ^ 2148)
  pub above : (2 * q - 1) * (2 * q - 1) * 4 ^ k < 4 * a
  pub below : 4 * a < (2 * q + 1) * (2 * q + 1) * 4 ^ k

-- ---- the nearest whole root of an n of 105 or 106 digits has 53
pub near_low : (n r : ℕ) → 2 ^ 104 ≤ n → n ≤ r * r + r → 2 ^ 52 ≤ r
near_low n r lo h = lt_of_not-le (λ (g : r ≤ 4503599627370495). no g (mul-le-mul_right r g))
  where
    no : r ≤ 4503599627370495 → r * r ≤ 4503599627370495 * r → ⊥
    no a g = omega arith

less : (n r s : ℕ) → 9007199254740992 * r ≤ s → s < n + r → 9007199254740991 * r < n
less n r s g h = omega arith

pub near_high : (n r : ℕ) → n ≤ 9007199254740991 * 2 ^ 53 → r * r < n + r → r < 2 ^ 53
near_high n r hi h =
    lt_of_not-le (λ (g : 9007199254740992 ≤ r).
    lt_irrefl n (lt_of_le_of_lt (le_trans hi (mul-le-mul_left 9007199254740991 g)) (less n r (r * r) (mul-le-mul_right r g) h)))

above_of : (n q : ℕ) → 0 < q → q * q < n + q → (2 * q - 1) * (2 * q - 1) < 4 * n
above_of n q p h = go (2 * q - 1) (omega arith)
  where
    go : (y : ℕ) → y + 1 ≡ 2 * q → y * y < 4 * n
    go y e = let g = ap (λ (z : ℕ). z * z) e in omega arith

-- ---- the root of A units, which are n * 4 ^ k units of 2 ^ -2148
nearest_root_at : (x : Float) (A n k : ℕ) → 0 < A → HasValue x false A (2 ^ 1074) → A * 2 ^ 1074 ≡ n * 4 ^ k
    → 2 ^ 104 ≤ n → n ≤ 9007199254740991 * 2 ^ 53 → k < 1534 → NearestRoot x (sqrt x)
nearest_root_at x A n k A_pos v e lo hi K =
    let q = closest_root n 0 in
    let n_lt : n < 2 ^ 106 = omega arith in
    let N = closest_is_nearest n (lt_of_lt_of_le (pow_pos 104) lo) n_lt in
    let ql : 2 ^ 52 ≤ q = near_low n q lo N.1 in
    let r_is : sqrt x ≡ odd 53 false q k 1074 = sqrt_of x A A_pos v ∙ ap sqrt_units e ∙ units_at n k lo n_lt in
    let four_a : 4 * n * 4 ^ k ≡ 4 * (A * 2 ^ 1074) = mul_assoc 4 n (4 ^ k) ∙ ap (λ (z : ℕ). 4 * z) (sym e) in
    record {
      q = q;
      k = k;
      a = A * 2 ^ 1074;
      q_low = ql;
      q_high = near_high n q hi N.0;
      k_lt = K;
      root_is = r_is;
      root_value = subst (λ (z : Float). HasValue z false (q * 2 ^ k) (2 ^ 1074)) (sym r_is) (odd_sign 53 false q k 1074);
      value = rescale x false A (2 ^ 1074) (A * 2 ^ 1074) (2 ^ 2148) (pow_pos 1074) (mul_assoc A (2 ^ 1074) (2 ^ 1074)) v;
      above = lt_of_lt_of_le (mul-lt-mul_of_pos_right (above_of n q (lt_of_lt_of_le (pow_pos 52) ql) N.0) (four_pos k)) (le_of_eq four_a);
      below = lt_of_le_of_lt (le_of_eq (sym four_a)) (mul-lt-mul_of_pos_right (below_of q N.1) (four_pos k));
    }
  where
    below_of : (q : ℕ) → n ≤ q * q + q → 4 * n < (2 * q + 1) * (2 * q + 1)
    below_of q h = omega arith

-- the result is the nearest value, and no root is a tie. With x of m * 2 ^ j units of 2 ^ -1074, the n of `nearest_root_at` is m * 2 ^ i, a whole
-- number, since 2k is at most j + 1074
pub sqrt_is_nearest : (x : Float) → T (positive x) → T (fits binary64 x) → NearestRoot x (sqrt x)
sqrt_is_nearest x p f =
    let o = representable binary64 x f (positive-finite x p) in
    let m = o.digits in
    let j = o.place in
    let v = positive_value x (m * 2 ^ j) (2 ^ 1074) p o.exact in
    let A : 0 < m * 2 ^ j = value_pos x (m * 2 ^ j) (2 ^ 1074) p (pow_pos 1074) v in
    let M : 0 < m = first_pos m (2 ^ j) A in
    let z = size m in
    let k = (z + j + 1075) / 2 - 53 in
    let i = j + 1074 - 2 * k in
    let b = bounds z j (size_gt m 0 M) (size-le m 53 o.few) (subst (λ (y : ℕ). y ≤ 2098) (size_mul m j M) (size-le (m * 2 ^ j) 2098 o.under)) in
    let powers : 2 ^ j * 2 ^ 1074 ≡ 2 ^ i * 4 ^ k =
    pow_split j 1074 (j + 1074) (omega arith) ∙ sym (pow_split i (2 * k) (j + 1074) b.0) ∙ ap (λ (y : ℕ). 2 ^ i * y) (sym (four k)) in
    let e : m * 2 ^ j * 2 ^ 1074 ≡ m * 2 ^ i * 4 ^ k =
    mul_assoc m (2 ^ j) (2 ^ 1074) ∙ ap (λ (y : ℕ). m * y) powers ∙ sym (mul_assoc m (2 ^ i) (4 ^ k)) in
    let s = size_mul m i M in
    nearest_root_at x (m * 2 ^ j) (m * 2 ^ i) k A v e
    (size_reaches (m * 2 ^ i) 104 (subst (λ (y : ℕ). 104 < y) (sym s) b.1))
    (all_ones 53 53 m i o.few (lt_of_lt_of_le (size-lt (m * 2 ^ i)) (pow_mono (subst (λ (y : ℕ). y ≤ 106) (sym s) b.2))))
    b.3
  where
    bounds : (z j : ℕ) → 0 < z → z ≤ 53 → z + j ≤ 2098
        → let k = (z + j + 1075) / 2 - 53 in
        (j + 1074 - 2 * k + 2 * k ≡ j + 1074) × (104 < z + (j + 1074 - 2 * k)) × (z + (j + 1074 - 2 * k) ≤ 106) × (k < 1534)
    bounds z j a b c = (omega arith, omega arith, omega arith, omega arith)

-- ---- the format holds every root
pub sqrt_fits : (x : Float) → T (positive x) → T (fits binary64 x) → T (fits binary64 (sqrt x))
sqrt_fits x p f =
    let r = sqrt_is_nearest x p f in
    let room : 53 + r.k ≤ 2098 = omega (arith, r.k_lt) in
    subst (λ (z : Float). T (fits binary64 z)) (sym r.root_is)
    (odd-fits binary64 53 false r.q r.k r.q_high (le_of_lt r.q_high) (lt_of_lt_of_le (shl_lt 53 r.k r.q_high) (pow_mono room)))
