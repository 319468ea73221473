-- `exp` of a value with the sign - is 1 at most, and of one of size 256 at most it is 2 ^ 400 at most. With n = |k|, |x| / ln 2 lies from n - 17 / 32 to
-- n + 1 / 2, so x differs from k ln 2 by 3 / 8 at most, the divisor 2 - c is 1 at least, and y is 2 at most, which a k below 0 at least halves; and where x is
-- below 0 and k is -0, y is 1 less what is not negative. Sizes are in 64ths. Assumes nothing.
use Rattle.std.specs.Prelude.{◌≡◌, ℕ, zero, suc, ◌+◌, ◌-◌, ◌*◌, ◌/◌, ◌%◌, ◌^◌, ◌<◌, ◌≤◌, min, Bool, true, false, cond, T, ℤ, pos, negsuc, neg_ℤ, refl, Float}
use Rattle.std.proofs.Common.{sym, ap, ◌∙◌, subst, inl, inr, true≢false, zero-le, le_of_mul-le-mul_right, le_trans, le_of_eq, lt_of_le_of_lt, zero-mul, mul-one, one-mul, mul-pos, mul-le-mul_right, pow-suc, mul-le-mul_left, div-add-mod', mod-lt, mul-div_cancel, zero-lt-suc, arith, le-ltb, ltb-false, lit≤, pow_pos, pow_mono}
use Rattle.std.proofs.Math.Nat.{min-eq_left}
use Rattle.std.specs.Float.{nan, inf, fin, binary64}
use Rattle.std.specs.Float.Ieee.{up, down, round, sum, add, sub, mul, neg, lt, le, is_nan, to_signed, fits, of_bits}
use Rattle.std.specs.Float.Ieee.Exact.{HasValue}
use Rattle.std.specs.Float.Ieee.Scale.{finite, round_same}
use Rattle.std.specs.Float.Ieee.Positive.{num, den, den_pos, through}
use Rattle.std.specs.Float.Ieee.Fits.{up_pos, down_pos, sub-fits}
use Rattle.arithmetic.specs.Operations.{◌⊕◌, ◌⊖◌, ◌⊗◌, ◌⊘◌, plus_zero, half, one, two}
use Rattle.arithmetic.specs.Basic.{is_sign_minus, trunc}
use Rattle.arithmetic.specs.Exp.{ln2_hi, ln2_lo, inv_ln2, o_threshold, u_threshold, P1, P2, P3, P4, P5, half_away, reduced, scale_b, exp}
use Rattle.arithmetic.specs.Laws.Numbers.{lt_or_le}
use Rattle.arithmetic.specs.Laws.Compare.{finite_no_nan}
use Rattle.arithmetic.specs.Laws.Times.{cross, has_finite, has_sign}
use Rattle.arithmetic.specs.Laws.Sums.{add_is, difference_is}
use Rattle.arithmetic.specs.Laws.Bounds.{le_cross}
use Rattle.arithmetic.specs.Laws.Zeros.{zero_of, zero_by_sign, plus_zero_lem}
use Rattle.arithmetic.specs.Laws.PowersOfTwo.{times_fraction}
use Rattle.arithmetic.specs.Laws.Choices.{by_test}
use Rattle.arithmetic.specs.Laws.PowerBounds.{zero_small, Small, small_le, size_small, small_round, small_of}
use Rattle.arithmetic.specs.Laws.Sizes.{short, grain, grain_held, round_upper, round_lower, round_minus, apart_by, sum_size, sum_apart, sum_alike}
use Rattle.arithmetic.specs.Laws.Sizes.{sub_is, Size, size_round, size_mul, size_add, size_sub, size_apart, size_widen, size_neg, size_of}
use Rattle.arithmetic.specs.Laws.Sizes.{NoLarger, no_larger_size, no_larger_mul, no_larger_div, no_larger_zero, difference_plus}

-- ---- the constants
hi_value : HasValue ln2_hi false 2977044471 4294967296
unfolding of_bits
hi_value = (refl, refl)

lo_value : HasValue ln2_lo false 3691024475790907 (2 ^ 84)
unfolding of_bits
lo_value = (refl, refl)

inv_value : HasValue inv_ln2 false 3248660424278399 2251799813685248
unfolding of_bits
inv_value = (refl, refl)

constants : Size 93 inv_ln2 × Size 32 half × Size 64 one × Size 128 two × Size 11 P1 × Size 1 P2 × Size 1 P3 × Size 1 P4 × Size 1 P5
unfolding of_bits
constants = (
  size_of 93 inv_ln2 tt,
  size_of 32 half tt,
  size_of 64 one tt,
  size_of 128 two tt,
  size_of 11 P1 tt,
  size_of 1 P2 tt,
  size_of 1 P3 tt,
  size_of 1 P4 tt,
  size_of 1 P5 tt,
)

-- ---- x / ln 2, and that and a half
pub half_away_is : (s : Bool) (x : Float) → half_away s x ≡ add binary64 (x ⊗ inv_ln2) (fin s 1 (negsuc 0))
unfolding half_away sub neg of_bits
half_away_is true x = refl
half_away_is false x = refl

half_away_size : (x : Float) (a : ℕ) → Size a (x ⊗ inv_ln2) → a ≤ 95232 → Size (a + 32) (half_away (is_sign_minus x) x)
half_away_size x a g l =
    subst (Size (a + 32)) (sym (half_away_is (is_sign_minus x) x))
    (size_add {b = 32} g (record { is_finite_lem = tt; bound = lit≤ {m = 64} {n = 64} tt }) (short (omega arith)))

module _ (x : Float) (p : T (finite x)) (k : T (finite (x ⊗ inv_ln2))) where
  abbrev s : Bool
  s = is_sign_minus x

  abbrev v : Float
  v = x ⊗ inv_ln2

  abbrev w : Float
  w = half_away s x

  v_is : v ≡ round binary64 s (num x * 3248660424278399) (den x * 2251799813685248)
  v_is = times_fraction x inv_ln2 3248660424278399 2251799813685248 p (lit≤ tt) (lit≤ tt) inv_value

  w_is : w ≡ round binary64 s (num v * 2 + 1 * 1 * den v) (den v * 2)
  w_is =
      half_away_is s x
      ∙ add_is binary64 v (fin s 1 (negsuc 0)) k tt
      ∙ ap (λ (t : Bool). sum binary64 t (num v * 2) s (1 * 1 * den v) (den v * 2)) (ap is_sign_minus v_is ∙ round_minus s _ _)
      ∙ sum_alike s (num v * 2) (1 * 1 * den v) (den v * 2)

-- ---- how far n is from |x| / ln 2
module _ (nx dx n : ℕ) (s : Bool) (v w : Float) (D : 0 < dx) (v_is : v ≡ round binary64 s (nx * 3248660424278399) (dx * 2251799813685248))
    (w_is : w ≡ round binary64 s (num v * 2 + 1 * 1 * den v) (den v * 2))
    (v_finite : T (finite v)) (w_finite : T (finite w)) (lower : n * den w ≤ num w) (upper : num w < (n + 1) * den w) (few : n ≤ 2000) where
  upper_of : (r : Float) (a c p j : ℕ) → r ≡ round binary64 s a c → 0 < c → p ≤ 200000 → j ≤ 1074 → a * 2 ^ j ≤ p * c → num r * 2 ^ j ≤ p * den r
  upper_of r a c p j e C P J h = subst (λ (z : Float). num z * 2 ^ j ≤ p * den z) (sym e)
      (round_upper s a c p (2 ^ j) C (pow_pos j) (grain_held p j (short P) J) h).2

  lower_of : (r : Float) (a c p j : ℕ) → r ≡ round binary64 s a c → 0 < c → p ≤ 200000 → j ≤ 1074 → T (finite r) → p * c ≤ a * 2 ^ j → p * den r ≤ num r * 2 ^ j
  lower_of r a c p j e C P J t h =
      subst (λ (z : Float). p * den z ≤ num z * 2 ^ j) (sym e)
      (round_lower s a c p (2 ^ j) C (pow_pos j) (grain_held p j (short P) J) (subst (λ (z : Float). T (finite z)) e t) h)

  not_over : nx * 6497320848556798 ≤ (2 * n + 1) * 2251799813685248 * dx
  not_over = elim (lt_or_le ((2 * n + 1) * 2251799813685248 * dx) (nx * 6497320848556798)) [
    | inl h ↦
        let a : (2 * n + 1) * den v ≤ num v * 2 = lower_of v (nx * 3248660424278399) (dx * 2251799813685248) (2 * n + 1) 1 v_is (mul-pos D (pow_pos 51))
        (omega arith) (lit≤ tt) v_finite (omega arith) in
        let b : (n + 1) * den w ≤ num w * 1 =
        lower_of w (num v * 2 + 1 * 1 * den v) (den v * 2) (n + 1) 0 w_is (mul-pos (den_pos v) (pow_pos 1)) (omega arith) zero-le w_finite (omega arith) in
        absurd (omega arith)
    | inr h ↦ h
  ]

  not_under : (m : ℕ) → n ≡ suc m → (32 * m + 15) * 2251799813685248 * dx ≤ nx * 103957133576908768
  not_under m e = elim (lt_or_le (nx * 103957133576908768) ((32 * m + 15) * 2251799813685248 * dx)) [
    | inl h ↦
        let a : num v * 32 ≤ (32 * m + 15) * den v =
        upper_of v (nx * 3248660424278399) (dx * 2251799813685248) (32 * m + 15) 5 v_is (mul-pos D (pow_pos 51)) (omega arith) (lit≤ tt) (omega arith) in
        let b : num w * 32 ≤ (32 * m + 31) * den w =
        upper_of w (num v * 2 + 1 * 1 * den v) (den v * 2) (32 * m + 31) 5 w_is (mul-pos (den_pos v) (pow_pos 1)) (omega arith) (lit≤ tt) (omega arith) in
        let c : suc m * den w ≤ num w = subst (λ (z : ℕ). z * den w ≤ num w) e lower in
        let d = den_pos w in
        absurd (omega arith)
    | inr h ↦ h
  ]

  -- so |x| differs from n ln2_hi by 24 / 64 at most; 274877906944 is 2 ^ 38
  above_by : nx * 274877906944 ≤ (n * 190530846144 + 103079215104) * dx
  above_by = through nx ((2 * n + 1) * 2251799813685248) (n * 190530846144 + 103079215104) dx 6497320848556798 274877906944 (lit≤ tt) not_over (omega arith)

  below_by : n * 190530846144 * dx ≤ nx * 274877906944 + 103079215104 * dx
  below_by = go n refl
    where
      go : (k : ℕ) → n ≡ k → k * 190530846144 * dx ≤ nx * 274877906944 + 103079215104 * dx
      go zero e = omega arith
      go (suc m) e =
          let a : (m * 190530846144 + 87451631040) * dx ≤ nx * 274877906944 =
          through (m * 190530846144 + 87451631040) ((32 * m + 15) * 2251799813685248) nx 274877906944 103957133576908768 dx
          (lit≤ tt) (omega arith) (not_under m e) in
          omega arith

-- ---- k, and its products with constants
abbrev k_of : Bool → ℕ → Float
k_of s n = round binary64 s n 1

k_value : (s : Bool) (n : ℕ) → n ≤ 2000 → HasValue (k_of s n) s n 1
k_value s n h = grain s n 0 (short (omega arith)) zero-le

pub whole_times : (s : Bool) (n : ℕ) → n ≤ 2000 → (p : Float) (b d : ℕ) → 0 < b → 0 < d → HasValue p false b d
    → round binary64 s n 1 ⊗ p ≡ round binary64 s (n * b) d
whole_times s n h p b d B D v =
    let k = k_of s n in
    let K = k_value s n h in
    times_fraction k p b d (has_finite k s n 1 K) B D v
    ∙ ap (λ (t : Bool). round binary64 t (num k * b) (den k * d)) (has_sign k s n 1 K)
    ∙ round_same binary64 s (num k * b) (den k * d) (n * b) d (mul-pos (den_pos k) D) D (go (num k) (den k) (cross k s n 1 K))
  where
    go : (a l : ℕ) → a * 1 ≡ n * l → a * b * d ≡ n * b * (l * d)
    go a l e = ap (λ (z : ℕ). z * b * d) (sym (mul-one a) ∙ e) ∙ (let r : n * l * b * d ≡ n * b * (l * d) = omega arith in r)

high_product : (s : Bool) (n : ℕ) → n ≤ 2000 → HasValue (k_of s n ⊗ ln2_hi) s (n * 2977044471) 4294967296
high_product s n h =
    subst (λ (z : Float). HasValue z s (n * 2977044471) 4294967296) (sym (whole_times s n h ln2_hi 2977044471 4294967296 (lit≤ tt) (lit≤ tt) hi_value))
    (grain s (n * 2977044471) 32 (lt_of_le_of_lt (mul-le-mul_right 2977044471 h) (lit≤ tt)) (lit≤ tt))

low_product : (s : Bool) (n : ℕ) → n ≤ 2000 → Size 1 (k_of s n ⊗ ln2_lo)
low_product s n h =
    subst (Size 1) (sym (whole_times s n h ln2_lo 3691024475790907 (2 ^ 84) (lit≤ tt) (pow_pos 84) lo_value))
    (size_round s (n * 3691024475790907) (2 ^ 84) 1 (pow_pos 84) (short (lit≤ tt))
    (le_trans (mul-le-mul_right 64 (mul-le-mul_right 3691024475790907 h)) (lit≤ tt)))

-- ---- x less k ln2_hi
head_size : (x : Float) (n : ℕ) → T (finite x) → n ≤ 2000 → num x * 274877906944 ≤ (n * 190530846144 + 103079215104) * den x
    → n * 190530846144 * den x ≤ num x * 274877906944 + 103079215104 * den x → Size 24 (x ⊖ k_of (is_sign_minus x) n ⊗ ln2_hi)
head_size x n p few h g =
    let s = is_sign_minus x in
    let kh = k_of s n ⊗ ln2_hi in
    let K = high_product s n few in
    let q : T (finite kh) = has_finite kh s (n * 2977044471) 4294967296 K in
    let z = sum_apart s (num x * den kh) (num kh * den x) (den x * den kh) in
    subst (Size 24) (sym (difference_is binary64 x kh p q ∙ rw (has_sign kh s (n * 2977044471) 4294967296 K) z.1))
    (size_round z.0 (num x * den kh - num kh * den x + (num kh * den x - num x * den kh)) (den x * den kh) 24 (mul-pos (den_pos x) (den_pos kh))
    (short (lit≤ tt))
    (go (num x) (den x) (num kh) (den kh) (ap (λ (z : ℕ). z * den x) (cross kh s (n * 2977044471) 4294967296 K)) (mul-le-mul_right (den kh) h)
    (mul-le-mul_right (den kh) g)))
  where
    go : (a d b e : ℕ) → b * 4294967296 * d ≡ n * 2977044471 * e * d → a * 274877906944 * e ≤ (n * 190530846144 + 103079215104) * d * e
        → n * 190530846144 * d * e ≤ (a * 274877906944 + 103079215104 * d) * e → (a * e - b * d + (b * d - a * e)) * 64 ≤ 24 * (d * e)
    go a d b e q h g = omega arith

-- ---- 2 less what is 1 at most in size is 1 at least
two_parts : (num two ≡ 2) × (den two ≡ 1) × (is_sign_minus two ≡ false)
unfolding of_bits
two_parts = (refl, refl, refl)

pub two_plus : (c : Float) → Size 64 c → T (finite (two ⊕ c)) × (den (two ⊕ c) ≤ num (two ⊕ c))
two_plus c h =
    let t = is_sign_minus c in
    let p : T (finite (two ⊕ c)) = (size_add constants.3 h (short (lit≤ tt))).is_finite_lem in
    let z = sum_size false t (2 * den c) (num c * 1) (1 * den c) in
    let is : two ⊕ c ≡ round binary64 z.0 (apart_by false t (2 * den c) (num c * 1)) (1 * den c) =
    add_is binary64 two c constants.3.is_finite_lem h.is_finite_lem ∙ rw (two_parts.0, two_parts.1, two_parts.2) z.1 in
    let l = round_lower z.0 (apart_by false t (2 * den c) (num c * 1)) (1 * den c) 1 1 (mul-pos (pow_pos 0) (den_pos c)) (pow_pos 0)
    (grain_held 1 0 (lit≤ tt) zero-le)
    (subst (λ (z : Float). T (finite z)) is p) (go t (num c) (den c) h.bound) in
    (p, subst (λ (z : Float). den z ≤ num z) (sym is) (flat _ _ l))
  where
    go : (t : Bool) (n d : ℕ) → n * 64 ≤ 64 * d → 1 * (1 * d) ≤ apart_by false t (2 * d) (n * 1) * 1
    go true n d h = omega arith
    go false n d h = omega arith

    flat : (n d : ℕ) → 1 * d ≤ n * 1 → d ≤ n
    flat n d h = omega arith

two_less : (c : Float) → Size 64 c → T (finite (two ⊖ c)) × (den (two ⊖ c) ≤ num (two ⊖ c))
two_less c h = subst (λ (z : Float). T (finite z) × (den z ≤ num z)) (sym (sub_is two c)) (two_plus (neg c) (size_neg h))

-- ---- y
abbrev pub c_of : Float → Float
c_of r = let q = r ⊗ r in r ⊖ q ⊗ (P1 ⊕ q ⊗ (P2 ⊕ q ⊗ (P3 ⊕ q ⊗ (P4 ⊕ q ⊗ P5))))

c_size : (r : Float) → Size 25 r → Size 64 (c_of r)
c_size r h =
    let (a, b, c, d, p1, p2, p3, p4, p5) = constants in
    let q : Size 10 (r ⊗ r) = size_mul 10 h h (lit≤ tt) (short (lit≤ tt)) in
    let t4 : Size 2 _ = size_add p4 (size_mul 1 q p5 (lit≤ tt) (short (lit≤ tt))) (short (lit≤ tt)) in
    let t3 : Size 2 _ = size_add p3 (size_mul 1 q t4 (lit≤ tt) (short (lit≤ tt))) (short (lit≤ tt)) in
    let t2 : Size 2 _ = size_add p2 (size_mul 1 q t3 (lit≤ tt) (short (lit≤ tt))) (short (lit≤ tt)) in
    let t1 : Size 12 _ = size_add p1 (size_mul 1 q t2 (lit≤ tt) (short (lit≤ tt))) (short (lit≤ tt)) in
    size_widen 64 (size_sub h (size_mul 2 q t1 (lit≤ tt) (short (lit≤ tt))) (short (lit≤ tt))) (lit≤ tt)

-- r c / (2 - c) is no larger than r
abbrev pub fraction : Float → Float
fraction r = (r ⊗ c_of r) ⊘ (two ⊖ c_of r)

fraction_less : (r : Float) → T (fits binary64 r) → Size 25 r → NoLarger r (fraction r)
fraction_less r F h =
    let c = c_size r h in
    let t = two_less (c_of r) c in
    no_larger_div r (r ⊗ c_of r) (two ⊖ c_of r) F h.is_finite_lem (no_larger_mul r (c_of r) F h.is_finite_lem c) t.0 t.1

-- what is taken from 1
abbrev pub subtrahend : Float → Float → Float
subtrahend h l = (l ⊖ fraction (h ⊖ l)) ⊖ h

subtrahend_size : (h l : Float) → Size 24 h → Size 1 l → Size 50 (subtrahend h l)
subtrahend_size h l H L =
    let r : Size 25 (h ⊖ l) = size_sub H L (short (lit≤ tt)) in
    let f : Size 25 (fraction (h ⊖ l)) = no_larger_size r (fraction_less (h ⊖ l) (sub-fits binary64 h l) r) in
    size_sub (size_sub L f (short (lit≤ tt))) H (short (lit≤ tt))

pub reduced_is : (x k : Float) → reduced x k ≡ one ⊖ subtrahend (x ⊖ k ⊗ ln2_hi) (k ⊗ ln2_lo)
unfolding reduced
reduced_is x k = refl

reduced_size : (x k : Float) → Size 24 (x ⊖ k ⊗ ln2_hi) → Size 1 (k ⊗ ln2_lo) → Size 114 (reduced x k)
reduced_size x k H L = rw (reduced_is x k) (size_sub constants.2 (subtrahend_size (x ⊖ k ⊗ ln2_hi) (k ⊗ ln2_lo) H L) (short (lit≤ tt)))

-- ---- y times 2 ^ k
pub trunc_is : (w : Float) → T (finite w) → trunc w ≡ round binary64 (is_sign_minus w) (num w / den w) 1
unfolding trunc
trunc_is nan p = absurd p
trunc_is (inf s) p = absurd p
trunc_is (fin s m e) p = refl

scale_small : (j n : ℕ) (y : Float) (z : ℤ) → Small j y → 2 ^ j * up z ≤ 2 ^ n * down z → n ≤ 1023 → Small n (scale_b y z)
unfolding scale_b
scale_small j n nan z h l K = absurd h.is_finite_lem
scale_small j n (inf s) z h l K = absurd h.is_finite_lem
scale_small j n (fin s m e) z h l K =
    (small_round s (m * up e * up z) (down e * down z) n (mul-pos (down_pos e) (down_pos z)) K
    (go (2 ^ j) (2 ^ n) (m * up e) (down e) (up z) (down z) (mul-le-mul_right (up z) h.bound) (mul-le-mul_right (down e) l))).0
  where
    go : (p q a d u w : ℕ) → a * u ≤ p * d * u → p * u * d ≤ q * w * d → a * u ≤ q * (d * w)
    go p q a d u w h g = omega arith

-- k as a whole number
abbrev signed : Bool → ℕ → ℤ
signed true n = neg_ℤ (pos n)
signed false n = pos n

signed_is : (k : Float) (s : Bool) (n : ℕ) → HasValue k s n 1 → n ≤ 2000 → to_signed 63 k ≡ signed s n
unfolding to_signed
signed_is nan s n h few = absurd h
signed_is (inf t) s n h few = absurd h
signed_is (fin t m e) s n h few = rw (h.0, quotient) (go s)
  where
    quotient : m * up e / down e ≡ n
    quotient = ap (λ (z : ℕ). z / down e) (sym (mul-one (m * up e)) ∙ h.1) ∙ mul-div_cancel n (down_pos e)

    go : (s : Bool) → cond s (neg_ℤ (pos (min n (2 ^ 63)))) (pos (min n (2 ^ 63 - 1))) ≡ signed s n
    go true = ap (λ (z : ℕ). neg_ℤ (pos z)) (min-eq_left (le_trans few (lit≤ tt)))
    go false = ap pos (min-eq_left (le_trans few (lit≤ tt)))

up_le : (s : Bool) (n : ℕ) → up (signed s n) ≤ 2 ^ n * down (signed s n)
up_le false n = le_of_eq (sym (mul-one (2 ^ n)))
up_le true zero = lit≤ tt
up_le true (suc n) = mul-pos (pow_pos (suc n)) (pow_pos (suc n))

-- ---- between the thresholds
module _ (x : Float) (A a : ℕ) (X : Size A x) (l : A * 93 ≤ 64 * a) (few : a ≤ 95232) where
  abbrev sx : Bool
  sx = is_sign_minus x

  abbrev wx : Float
  wx = half_away sx x

  abbrev nx : ℕ
  nx = num wx / den wx

  product_size : Size a (x ⊗ inv_ln2)
  product_size = size_mul a X constants.0 l (short (omega arith))

  w_size : Size (a + 32) wx
  w_size = half_away_size x a product_size few

  w_sign : is_sign_minus wx ≡ sx
  w_sign = ap is_sign_minus (w_is x X.is_finite_lem product_size.is_finite_lem) ∙ round_minus sx _ _

  k_is : trunc wx ≡ k_of sx nx
  k_is = trunc_is wx w_size.is_finite_lem ∙ ap (λ (t : Bool). round binary64 t nx 1) w_sign

  divided : nx * den wx + num wx % den wx ≡ num wx
  divided = div-add-mod' (num wx) (den wx)

  n_few : nx * 64 ≤ a + 32
  n_few = le_of_mul-le-mul_right (go nx (num wx % den wx) (num wx) (den wx) divided w_size.bound) (den_pos wx)
    where
      go : (n r a' d : ℕ) → n * d + r ≡ a' → a' * 64 ≤ (a + 32) * d → n * 64 * d ≤ (a + 32) * d
      go n r a' d e h = omega arith

  n_least : nx * den wx ≤ num wx
  n_least = go nx (num wx % den wx) (num wx) (den wx) divided
    where
      go : (n r a' d : ℕ) → n * d + r ≡ a' → n * d ≤ a'
      go n r a' d e = omega arith

  n_under : num wx < (nx + 1) * den wx
  n_under = go nx (num wx % den wx) (num wx) (den wx) divided (mod-lt (num wx) (den_pos wx))
    where
      go : (n r a' d : ℕ) → n * d + r ≡ a' → r < d → a' < (n + 1) * d
      go n r a' d e h = omega arith

  n_most : nx ≤ 2000
  n_most = omega (arith, n_few)

  head : Size 24 (x ⊖ k_of sx nx ⊗ ln2_hi)
  head =
      let p = X.is_finite_lem in
      let q = product_size.is_finite_lem in
      let near = above_by (num x) (den x) nx sx (x ⊗ inv_ln2) wx (den_pos x) (v_is x p q) (w_is x p q) q w_size.is_finite_lem n_least n_under n_most in
      let far = below_by (num x) (den x) nx sx (x ⊗ inv_ln2) wx (den_pos x) (v_is x p q) (w_is x p q) q w_size.is_finite_lem n_least n_under n_most in
      head_size x nx p n_most near far

  y_small : Small 1 (reduced x (k_of sx nx))
  y_small = size_small 1 (reduced_size x (k_of sx nx) head (low_product sx nx n_most)) (lit≤ tt)

  scaled_is : let k = trunc wx in scale_b (reduced x k) (to_signed 63 k) ≡ scale_b (reduced x (k_of sx nx)) (signed sx nx)
  scaled_is = rw (k_is, signed_is (k_of sx nx) sx nx (k_value sx nx n_most) n_most) refl

  any_small : (n : ℕ) → nx ≤ n → suc n ≤ 1023 → let k = trunc wx in Small (suc n) (scale_b (reduced x k) (to_signed 63 k))
  any_small n h K =
      subst (Small (suc n)) (sym scaled_is)
      (scale_small 1 (suc n) (reduced x (k_of sx nx)) (signed sx nx) y_small
      (rw (pow-suc 2 n) (le_trans (mul-le-mul_left 2 (up_le sx nx)) (go (2 ^ nx) (2 ^ n) (down (signed sx nx)) (pow_mono h)))) K)
    where
      go : (p q d : ℕ) → p ≤ q → 2 * (p * d) ≤ q * 2 * d
      go p q d h = let g : p * d ≤ q * d = mul-le-mul_right d h in omega arith

-- ---- of an x below 0
zero_products : (k_of true 0 ⊗ ln2_hi ≡ zero_of true) × (k_of true 0 ⊗ ln2_lo ≡ zero_of true)
unfolding mul round of_bits
zero_products = (refl, refl)

one_plus : is_sign_minus one ≡ false
unfolding of_bits
one_plus = refl

one_le : (n : ℕ) → 1 ≤ suc n
one_le n = omega arith

module _ (m : ℕ) (e : ℤ) (F : T (fits binary64 (fin true (suc m) e))) where
  abbrev below : Float
  below = fin true (suc m) e

  same : below ⊖ zero_of true ≡ below
  unfolding sub neg
  same = plus_zero_lem false true m e F

  -- where k is -0 the fraction is no larger than x, so what is taken from 1 is not negative
  reduced_minus : Size 24 (below ⊖ k_of true 0 ⊗ ln2_hi) → Size 64 (reduced below (k_of true 0))
  reduced_minus h =
      let z = zero_of true in
      let f = fraction (below ⊖ z) in
      let H : Size 24 below = subst (Size 24) (ap (λ (w : Float). below ⊖ w) zero_products.0 ∙ same) h in
      let a : NoLarger below (z ⊖ f) = no_larger_zero below f z F tt (rw same (fraction_less below F (size_widen 25 H (lit≤ tt)))) tt refl in
      let plus : is_sign_minus (subtrahend below z) ≡ false = difference_plus (z ⊖ f) below a.is_finite_lem tt refl a.bound in
      rw (reduced_is below (k_of true 0), zero_products.0, zero_products.1, same)
      (size_apart constants.2 (size_widen 64 (subtrahend_size below z H (size_of 1 z tt)) (lit≤ tt)) (plus ∙ sym one_plus) (short (lit≤ tt)))

  scaled_minus : (n : ℕ) → Size 24 (below ⊖ k_of true n ⊗ ln2_hi) → Small 1 (reduced below (k_of true n))
      → Small 0 (scale_b (reduced below (k_of true n)) (signed true n))
  scaled_minus zero h y = scale_small 0 0 (reduced below (k_of true 0)) (pos 0) (size_small 0 (reduced_minus h) (lit≤ tt)) (lit≤ tt) (lit≤ tt)
  scaled_minus (suc n) h y =
      scale_small 1 0 (reduced below (k_of true (suc n))) (negsuc n) y (le_trans (pow_mono (one_le n)) (le_of_eq (sym (one-mul (2 ^ suc n))))) (lit≤ tt)

  minus_small : Size 65536 below → let k = trunc (half_away true below) in Small 0 (scale_b (reduced below k) (to_signed 63 k))
  minus_small X =
      subst (Small 0) (sym (scaled_is below 65536 95232 X (lit≤ tt) (lit≤ tt)))
      (scaled_minus (nx below 65536 95232 X (lit≤ tt) (lit≤ tt))
      (head below 65536 95232 X (lit≤ tt) (lit≤ tt)) (y_small below 65536 95232 X (lit≤ tt) (lit≤ tt)))

-- ---- the laws
-- the exponential by its tests
exp_cases : (P : Float → Type 0) (x : Float) → is_nan x ≡ false → lt o_threshold x ≡ false → P plus_zero
    → (lt x u_threshold ≡ false → let k = trunc (half_away (is_sign_minus x) x) in P (scale_b (reduced x k) (to_signed 63 k))) → P (exp x)
unfolding exp
exp_cases P x n o u f = rw (n, o) (by_test P (lt x u_threshold) (λ e. u) f)

exp_at_minus_zero : Small 0 (exp (zero_of true))
unfolding exp
exp_at_minus_zero = small_of 0 (exp (zero_of true)) tt

-- of a value with the sign -
pub exp_minus : (x : Float) → T (fits binary64 x) → is_sign_minus x ≡ true → Small 0 (exp x)
unfolding is_nan lt of_bits
exp_minus nan F s = absurd (true≢false (sym s))
exp_minus (inf false) F s = absurd (true≢false (sym s))
exp_minus (inf true) F s = exp_cases (Small 0) (inf true) refl refl (zero_small 0) (λ e. absurd (true≢false e))
exp_minus (fin false m e) F s = absurd (true≢false (sym s))
exp_minus (fin true zero e) F s = subst (λ (z : Float). Small 0 (exp z)) (sym (zero_by_sign (fin true zero e) F tt (zero-mul (up e)))) exp_at_minus_zero
exp_minus (fin true (suc m) e) F s =
    exp_cases (Small 0) (fin true (suc m) e) refl refl (zero_small 0)
    (λ u. minus_small m e F
    (record { is_finite_lem = tt; bound = go (suc m * up e) (down e) (ltb-false (num u_threshold * down e) (suc m * up e * den u_threshold) u) }))
  where
    go : (n d : ℕ) → n * den u_threshold ≤ num u_threshold * d → n * 64 ≤ 65536 * d
    go n d h = omega arith

-- of a value that is 0 or below
exp_at_zero : T (le (exp (zero_of false)) one)
unfolding exp lt le
exp_at_zero = tt

pub exp_at_most_one : (x : Float) → T (fits binary64 x) → T (le x plus_zero) → T (le (exp x) one)
unfolding le lt of_bits
exp_at_most_one nan F h = absurd h
exp_at_most_one (inf false) F h = absurd h
exp_at_most_one (inf true) F h = small_le (exp (inf true)) (exp_minus (inf true) F refl)
exp_at_most_one (fin true m e) F h = small_le (exp (fin true m e)) (exp_minus (fin true m e) F refl)
exp_at_most_one (fin false zero e) F h =
    subst (λ (z : Float). T (le (exp z) one)) (sym (zero_by_sign (fin false zero e) F tt (zero-mul (up e)))) exp_at_zero
exp_at_most_one (fin false (suc m) e) F h =
    let a : suc m * up e * 1 ≤ 0 * down e = le_cross (fin false (suc m) e) plus_zero tt tt refl refl h in
    let b : 0 < suc m * up e = mul-pos (zero-lt-suc m) (up_pos e) in
    absurd (omega arith)

not_above : (x : Float) → Small 8 x → lt o_threshold x ≡ false
unfolding lt of_bits
not_above nan h = absurd h.is_finite_lem
not_above (inf s) h = absurd h.is_finite_lem
not_above (fin true m e) h = refl
not_above (fin false m e) h = le-ltb (num o_threshold * down e) (m * up e * den o_threshold) (go (m * up e) (down e) h.bound)
  where
    go : (n d : ℕ) → n ≤ 2 ^ 8 * d → n * den o_threshold ≤ num o_threshold * d
    go n d h = omega arith

pub exp_small : (x : Float) → Small 8 x → Small 400 (exp x)
exp_small x h =
    exp_cases (Small 400) x (finite_no_nan x h.is_finite_lem) (not_above x h) (zero_small 400)
    (λ u. let X : Size 16384 x = record { is_finite_lem = h.is_finite_lem; bound = wide (num x) (den x) h.bound } in
    any_small x 16384 23808 X (lit≤ tt) (lit≤ tt) 399 (omega (arith, n_few x 16384 23808 X (lit≤ tt) (lit≤ tt))) (lit≤ tt))
  where
    wide : (n d : ℕ) → n ≤ 2 ^ 8 * d → n * 64 ≤ 16384 * d
    wide n d h = omega arith
