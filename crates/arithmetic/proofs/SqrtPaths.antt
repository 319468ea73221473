-- What `sqrt` and `of_normal` give: the root of what a bit pattern stands for, on each path of the code, and the pattern that the code puts
-- together. Assumes nothing.
use Rattle.std.proofs.Common.{◌≡◌, ℕ, zero, suc, ◌+◌, ◌-◌, ◌*◌, ◌/◌, ◌%◌, ◌^◌, ◌<◌, ◌≤◌, Bool, true, false, cond, not, T, eqb, ◌⊎◌, pos, sym, refl, ap, ◌∙◌, subst, inl, inr, le_of_eq, lt_of_lt_of_le, mul_assoc, mul_comm, div-lt_iff_lt-mul, eq-or-lt_of_le, mul-pos, mul-one, div-one, arith, lit<, pow_pos, lt-ltb, le-ltb}
use lib.Ieee.{Float, nan, inf, binary64, odd, of_fields, of_bits, to_bits, of_int, round, size, fits, is_nan}
use lib.Ieee.Bits.{of_bits-fits, of_bits-to_bits}
use lib.Ieee.Digits.{size-lt, size-le}
use lib.Ieee.Positive.{num, den, den_pos, positive_of_value}
use lib.Ieee.Fits.{round-fits}
use lib.Ieee.Exact.{HasValue, odd_sign}
use Rattle.arithmetic.specs.Laws.Numbers.{lt_or_le, pow_split, four, size_mul, false_not}
use Rattle.arithmetic.specs.Laws.Times.{Times, has_finite, rescale, of_cross, positive_sign}
use Rattle.arithmetic.specs.Laws.Compare.{finite_no_nan}
use Rattle.arithmetic.proofs.Methods.{nan_of}
use Rattle.arithmetic.specs.Laws.SqrtScaling.{units_times}
use Rattle.arithmetic.specs.Laws.SqrtNearest.{sqrt_fits}
use Rattle.arithmetic.specs.Laws.SqrtBounds.{sqrt_positive}
use Rattle.arithmetic.specs.Laws.PowersOfTwo.{times_fraction}
use Rattle.arithmetic.specs.Laws.Representable.{round_self}
use Rattle.arithmetic.specs.Operations.{◌⊗◌}
use Rattle.arithmetic.specs.Sqrt.{sqrt_units, sqrt}
use Rattle.arithmetic.specs.Laws.Patterns.{signed_is, at_zero, above_zero, subnormal, normal, built, no_nan, bits_at, bits_of}
use Rattle.arithmetic.specs.Laws.WholeRoots.{units_at}
use Rattle.arithmetic.specs.Laws.SqrtValues.{sqrt_of, sqrt_below}
use Rattle.arithmetic.specs.Internal.Sqrt.{Radicand, leading, Closest}
use Rattle.arithmetic.proofs.Integers.{integer_value}

-- ---- NaN, the infinity, and the two zeros
at_nan : sqrt nan ≡ nan
unfolding sqrt
at_nan = refl

pub of_nan : (x : Float) → true ≡ is_nan x → x ≡ sqrt x
of_nan x h = let e = nan_of x h in e ∙ sym (ap sqrt e ∙ at_nan)

abbrev Itself : ℕ → Type 0
Itself b = sqrt (of_bits binary64 b) ≡ of_bits binary64 b

at_zero_infinity : Itself 0 × Itself 9218868437227405312 × Itself 9223372036854775808
unfolding sqrt of_bits
at_zero_infinity = (refl, refl, refl)

pub of_zero : (b : ℕ) → b ≡ 0 → Itself b
of_zero b e = subst Itself (sym e) at_zero_infinity.0

pub of_itself : (b : ℕ) → 9218868437227405312 ≤ b → b ≤ 9223372036854775808 → is_nan (of_bits binary64 b) ≡ false → Itself b
of_itself b lo hi n = go (eq-or-lt_of_le hi)
  where
    go : (b ≡ 9223372036854775808) ⊎ (b < 9223372036854775808) → Itself b
    go (inl e) = subst Itself (sym e) at_zero_infinity.2
    go (inr l) = let h = no_nan b n in let e : b ≡ 9218868437227405312 = omega arith in subst Itself (sym e) at_zero_infinity.1

-- ---- above zero
of_odd : (q k : ℕ) → 0 < q → sqrt (odd 53 false q k 1074) ≡ sqrt_units (q * 2 ^ (k + 1074))
of_odd q k h =
    sqrt_of (odd 53 false q k 1074) (q * 2 ^ k) (mul-pos h (pow_pos k)) (odd_sign 53 false q k 1074)
    ∙ ap sqrt_units (mul_assoc q (2 ^ k) (2 ^ 1074) ∙ ap (λ (x : ℕ). q * x) (pow_split k 1074 (k + 1074) refl))

of_normal : (b : ℕ) → 4503599627370496 ≤ b → b < 9218868437227405312
    → sqrt (of_bits binary64 b) ≡ sqrt_units ((4503599627370496 + b % 4503599627370496) * 2 ^ (1073 + b / 4503599627370496))
of_normal b lo hi =
    let m = 4503599627370496 + b % 4503599627370496 in
    let e : b / 4503599627370496 - 1 + 1074 ≡ 1073 + b / 4503599627370496 = omega arith in
    ap sqrt (normal b lo hi) ∙ of_odd m (b / 4503599627370496 - 1) (omega arith) ∙ ap (λ (x : ℕ). sqrt_units (m * 2 ^ x)) e

-- ---- below zero
at_minus : sqrt (inf true) ≡ nan
unfolding sqrt
at_minus = refl

odd_below : (q k : ℕ) → 0 < q → sqrt (odd 53 true q k 1074) ≡ nan
odd_below q k h = sqrt_below (odd 53 true q k 1074) (q * 2 ^ k) (2 ^ 1074) (mul-pos h (pow_pos k)) (odd_sign 53 true q k 1074)

fields_below : (x t : ℕ) → 0 < x * 4503599627370496 + t → sqrt (of_fields binary64 true x t) ≡ nan
fields_below zero t h = ap sqrt (at_zero true t) ∙ odd_below t 0 (omega arith)
fields_below (suc x) t h = ap sqrt (above_zero true x t) ∙ go (eqb (suc x) 2047) (eqb t 0)
  where
    go : (a b : Bool) → sqrt (cond a (cond b (inf true) nan) (odd 53 true (4503599627370496 + t) x 1074)) ≡ nan
    go true true = at_minus
    go true false = at_nan
    go false b = odd_below (4503599627370496 + t) x (omega arith)

nan_pattern : of_bits binary64 0x7ff8_0000_0000_0000 ≡ nan
unfolding of_bits
nan_pattern = refl

pub of_below : (b : ℕ) → 9223372036854775808 < b → b < 18446744073709551616 → of_bits binary64 0x7ff8_0000_0000_0000 ≡ sqrt (of_bits binary64 b)
of_below b lo hi =
    let r = b - 9223372036854775808 in
    let e : b ≡ 9223372036854775808 + r = omega arith in
    nan_pattern
    ∙ sym (ap (λ (x : ℕ). sqrt (of_bits binary64 x)) e
    ∙ ap sqrt (signed_is true r (omega arith))
    ∙ fields_below (r / 4503599627370496) (r % 4503599627370496) (omega arith))

-- ---- the pattern that `of_normal` puts together: w * 2 ^ 52 is the 53 digits times 2 ^ i, for the i that makes the exponent even
pub pattern_at : (b k w i r : ℕ) → 4503599627370496 ≤ b → b < 9218868437227405312 → Radicand w → k < 2046
    → w * 2 ^ 52 ≡ (4503599627370496 + b % 4503599627370496) * 2 ^ i → i + 2 * k ≡ 1073 + b / 4503599627370496 → Closest w r
    → of_bits binary64 (k * 4503599627370496 + r) ≡ sqrt (of_bits binary64 b)
pattern_at b k w i r low high (lo, hi) K e g h =
    let m = 4503599627370496 + b % 4503599627370496 in
    let exponent = ap (λ (x : ℕ). 2 ^ i * x) (four k) ∙ pow_split i (2 * k) (1073 + b / 4503599627370496) g in
    built k r K h.1 h.2
    ∙ ap (λ (q : ℕ). odd 53 false q k 1074) h.0
    ∙ sym (units_at (w * 2 ^ 52) k (omega arith) (omega arith))
    ∙ ap sqrt_units (ap (λ (x : ℕ). x * 4 ^ k) e ∙ mul_assoc m (2 ^ i) (4 ^ k) ∙ ap (λ (x : ℕ). m * x) exponent)
    ∙ sym (of_normal b low high)

-- so with the leading digits that the code takes: one is as long as a significand, two where they are doubled
pub leading_at : (b q : ℕ) → 4503599627370496 ≤ b → b < 9218868437227405312 → Closest (leading b) q
    → of_bits binary64 ((1021 + b / 4503599627370496) / 2 * 4503599627370496 + q) ≡ sqrt (of_bits binary64 b)
leading_at b q lo hi = go (lt_or_le (b % 9007199254740992) 4503599627370496)
  where
    k : ℕ
    k = (1021 + b / 4503599627370496) / 2

    go : (b % 9007199254740992 < 4503599627370496) ⊎ (4503599627370496 ≤ b % 9007199254740992) → Closest (leading b) q
        → of_bits binary64 (k * 4503599627370496 + q) ≡ sqrt (of_bits binary64 b)
    go (inl l) h =
        pattern_at b k _ 53 q lo hi (omega arith, omega arith) (omega arith) (omega arith) (omega arith)
        (subst (λ (c : Bool). Closest (cond c (2 * (b % 9007199254740992) + 9007199254740992) (b % 9007199254740992)) q) (lt-ltb _ _ l) h)
    go (inr g) h =
        pattern_at b k _ 52 q lo hi (omega arith, omega arith) (omega arith) (omega arith) (omega arith)
        (subst (λ (c : Bool). Closest (cond c (2 * (b % 9007199254740992) + 9007199254740992) (b % 9007199254740992)) q) (le-ltb _ _ g) h)

-- ---- what `sqrt` does with a subnormal value: b units are b * 2 ^ -1074, so the root is √b times 2 ^ -537
unit_root : HasValue (of_bits binary64 0x1e60_0000_0000_0000) false 1 (2 ^ 537)
unfolding of_bits
unit_root = (refl, refl)

module _ (b : ℕ) (some : 0 < b) (few : b < 4503599627370496) where
  abbrev y : Float
  y = of_int binary64 (pos b)

  y_value : HasValue y false b 1
  y_value = integer_value b (omega arith)

  y_fits : T (fits binary64 y)
  unfolding of_int
  y_fits = round-fits binary64 false b 1

  pub whole_no_nan : T (not (is_nan y))
  whole_no_nan = false_not (is_nan y) (finite_no_nan y (has_finite y false b 1 y_value))

  pub whole_normal : (4503599627370496 ≤ to_bits binary64 y) × (to_bits binary64 y < 9218868437227405312)
  whole_normal =
      let n = b * 2 ^ 1074 in
      let z = size b in
      let k : size n - 53 ≡ z + 1021 = ap (λ (s : ℕ). s - 53) (size_mul b 1074 some) ∙ less z in
      let width : 2 ^ size n ≡ 2 ^ 53 * 2 ^ (z + 1021) =
      ap (λ (s : ℕ). 2 ^ s) (size_mul b 1074 some) ∙ sym (pow_split 53 (z + 1021) (z + 1074) (omega arith)) in
      let digits : n / 2 ^ (z + 1021) < 2 ^ 53 = (div-lt_iff_lt-mul (pow_pos (z + 1021))).1 (lt_of_lt_of_le (size-lt n) (le_of_eq width)) in
      let pattern : to_bits binary64 y ≡ 0 + (z + 1021) * 2 ^ 52 + n / 2 ^ (z + 1021) =
      bits_of binary64 y false b 1 (pow_pos 0) y_value ∙ ap (bits_at binary64 false) (div-one n) ∙ ap (λ (j : ℕ). 0 + j * 2 ^ 52 + n / 2 ^ j) k in
      subst (λ (c : ℕ). (4503599627370496 ≤ c) × (c < 9218868437227405312)) (sym pattern)
      (between (size b) (n / 2 ^ (z + 1021)) (size-le b 52 few) digits)
    where
      less : (z : ℕ) → z + 1074 - 53 ≡ z + 1021
      less z = omega arith

      between : (z d : ℕ) → z ≤ 52 → d < 2 ^ 53 → (4503599627370496 ≤ 0 + (z + 1021) * 2 ^ 52 + d) × (0 + (z + 1021) * 2 ^ 52 + d < 9218868437227405312)
      between z d h g = (omega arith, omega arith)

  pub of_whole : (r : Float) → r ≡ sqrt (of_bits binary64 (to_bits binary64 y)) → r ⊗ of_bits binary64 0x1e60_0000_0000_0000 ≡ sqrt (of_bits binary64 b)
  of_whole r e =
      let x = of_bits binary64 b in
      let q = sqrt y in
      let v : HasValue x false b (2 ^ 1074) =
      subst (λ (z : Float). HasValue z false b (2 ^ 1074)) (sym (subnormal b few))
      (subst (λ (n : ℕ). HasValue (odd 53 false b 0 1074) false n (2 ^ 1074)) (mul-one b) (odd_sign 53 false b 0 1074)) in
      let p = positive_of_value x b (2 ^ 1074) v some in
      let plus = positive_sign (sqrt x) (sqrt_positive x p (of_bits-fits binary64 b)) in
      let t : Times 537 (sqrt x) q =
      units_times x y b 537 some v (rescale y false b 1 (b * 4 ^ 537) (2 ^ 1074) (pow_pos 0) (mul-one (b * 4 ^ 537)) y_value) in
      let value : num (sqrt x) * (den q * 2 ^ 537) ≡ num q * 1 * den (sqrt x) =
      ap (λ (n : ℕ). num (sqrt x) * n) (mul_comm (den q) (2 ^ 537))
      ∙ sym (mul_assoc (num (sqrt x)) (2 ^ 537) (den q))
      ∙ sym t.value
      ∙ ap (λ (n : ℕ). n * den (sqrt x)) (sym (mul-one (num q))) in
      ap (λ (z : Float). z ⊗ of_bits binary64 0x1e60_0000_0000_0000) (e ∙ ap sqrt (of_bits-to_bits binary64 y y_fits))
      ∙ times_fraction q (of_bits binary64 0x1e60_0000_0000_0000) 1 (2 ^ 537) t.finite_r (lit< tt) (pow_pos 537) unit_root
      ∙ ap (λ (s : Bool). round binary64 s (num q * 1) (den q * 2 ^ 537)) (t.sign ∙ plus)
      ∙ round_self binary64 (sqrt x) false (num q * 1) (den q * 2 ^ 537) (mul-pos (den_pos q) (pow_pos 537)) (sqrt_fits x p (of_bits-fits binary64 b))
      (of_cross (sqrt x) false (num q * 1) (den q * 2 ^ 537) t.finite_l plus value)
