-- `sqrt` scales by powers of four: where y is 4 ^ k times x exactly, √y is 2 ^ k times √x exactly, both as rounded.
-- That holds for all finite values above zero of the format, subnormal ones too, since no √x is subnormal. Assumes nothing.
use Rattle.std.specs.Prelude.{◌≡◌, ℕ, ◌+◌, ◌-◌, ◌*◌, ◌/◌, ◌^◌, ◌<◌, ◌≤◌, false, T, Float}
use Rattle.std.proofs.Common.{sym, ap, ◌∙◌, le_trans, le_of_eq, lt_of_lt_of_le, one-mul, mul-pos, mul_assoc, mul_right_comm, mul-le-mul_right, arith, lit≤, pow-add, pow_pos}
use Rattle.std.specs.Float.{binary64}
use Rattle.std.specs.Float.Ieee.{size, odd, fits}
use Rattle.std.specs.Float.Ieee.Exact.{HasValue, odd_sign}
use Rattle.std.specs.Float.Ieee.Positive.{positive, positive-finite, value_pos}
use Rattle.arithmetic.specs.Sqrt.{closest_root, sqrt_units, sqrt}
use Rattle.arithmetic.specs.Laws.Numbers.{four_square, four_pos, size_gt, size_four}
use Rattle.arithmetic.specs.Laws.Times.{Times, times_value, times_of_values, positive_value}
use Rattle.arithmetic.specs.Laws.Representable.{representable}
use Rattle.arithmetic.specs.Laws.WholeRoots.{closest_four, sqrt_units_is}
use Rattle.arithmetic.specs.Laws.SqrtValues.{sqrt_of}

scaled_root : (a j : ℕ) → 2 ^ 104 ≤ a → let k = (size a + 1) / 2 - 53 in sqrt_units (a * 4 ^ j) ≡ odd 53 false (closest_root a k) (k + j) 1074
scaled_root a j h =
    let k = (size a + 1) / 2 - 53 in
    sqrt_units_is (a * 4 ^ j)
    ∙ rw (size_four a j (lt_of_lt_of_le (pow_pos 104) h), dropped (size a) (size_gt a 104 h)) (ap (λ (q : ℕ). odd 53 false q (k + j) 1074) (closest_four a k j))
  where
    dropped : (z : ℕ) → 104 < z → (z + 2 * j + 1) / 2 - 53 ≡ (z + 1) / 2 - 53 + j
    dropped z h = omega arith

-- x is A units of 2 ^ -1074, and y is A * 4 ^ j
pub units_times : (x y : Float) (A j : ℕ) → 0 < A → HasValue x false A (2 ^ 1074) → HasValue y false (A * 4 ^ j) (2 ^ 1074) → Times j (sqrt x) (sqrt y)
units_times x y A j h v w =
    let a = A * 2 ^ 1074 in
    let k = (size a + 1) / 2 - 53 in
    let q = closest_root a k in
    let big : 2 ^ 104 ≤ a = le_trans (lit≤ tt) (le_trans (le_of_eq (sym (one-mul (2 ^ 1074)))) (mul-le-mul_right (2 ^ 1074) h)) in
    let x_is : sqrt x ≡ odd 53 false q k 1074 = sqrt_of x A h v ∙ sqrt_units_is a in
    let y_is : sqrt y ≡ odd 53 false q (k + j) 1074 =
    sqrt_of y (A * 4 ^ j) (mul-pos h (four_pos j)) w ∙ ap sqrt_units (mul_right_comm A (4 ^ j) (2 ^ 1074)) ∙ scaled_root a j big in
    let more : q * 2 ^ (k + j) ≡ q * 2 ^ k * 2 ^ j = ap (λ (n : ℕ). q * n) (pow-add 2 k j) ∙ sym (mul_assoc q (2 ^ k) (2 ^ j)) in
    rw (x_is, y_is)
    (times_of_values j (odd 53 false q k 1074) (odd 53 false q (k + j) 1074) false (q * 2 ^ k) (2 ^ 1074) (pow_pos 1074)
    (odd_sign 53 false q k 1074) (rw (← more) (odd_sign 53 false q (k + j) 1074)))

pub sqrt_times : (k : ℕ) (x y : Float) → T (positive x) → T (fits binary64 x) → Times (k + k) x y → Times k (sqrt x) (sqrt y)
sqrt_times k x y p f h =
    let o = representable binary64 x f (positive-finite x p) in
    let A = o.digits * 2 ^ o.place in
    let v = positive_value x A (2 ^ 1074) p o.exact in
    units_times x y A k (value_pos x A (2 ^ 1074) p (pow_pos 1074) v) v (rw four_square (times_value (k + k) x y false A (2 ^ 1074) h v))
