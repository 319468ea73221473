-- The significand m and the exponent k of `ln`: x is m * 2 ^ k, and the pattern of m lies from 3FE6A09E00000000 to below 3FF6A09E00000000. What
-- they are by the pattern of x. 4503599627370496 is 2 ^ 52, 9218868437227405312 is 2047 * 2 ^ 52, the pattern of the infinity, and
-- 0x16A09E00000000 is 741455 * 2 ^ 33. Assumes nothing.
use Rattle.std.specs.Prelude.{◌≡◌, ℕ, zero, suc, ◌+◌, ◌-◌, ◌*◌, ◌/◌, ◌%◌, ◌^◌, ◌<◌, ◌≤◌, Bool, true, false, cond, not, T, ltb, ◌⊎◌, ℤ, is_nan, nat_le, nat_lt, to_bits, refl, Float}
use Rattle.std.proofs.Common.{sym, ap, ◌∙◌, subst, true≢false, le_trans, le_of_eq, lt_of_lt_of_le, lt_trans, one-mul, mul_assoc, mul_comm, mul_left_comm, mul-pos, mul-one, mul-le-mul_right, mul-le-mul, mul-div_cancel, lt_of_mul-lt-mul_right, arith, lt-ltb, le-ltb, leb-false, lit<, pow-add, pow_pos, pow_mono, shl_lt}
use Rattle.std.proofs.Math.Logic.{inl, inr}
use Rattle.std.proofs.Math.Nat.{le_of_mul-le-mul_right, eq_of_mul-eq-mul_right}
use Rattle.std.specs.Float.Ieee.{binary64, up, down, minus, size, odd, round, of_int, fits, le, of_bits, of_fields}
use Rattle.std.specs.Float.Ieee.Digits.{minus_val}
use Rattle.std.specs.Float.Ieee.Fits.{mul-fits}
use Rattle.std.specs.Float.Ieee.Bits.{is_true, of_bits-fits, of_bits-to_bits, to_bits-of_bits, nan_bits_is}
use Rattle.std.specs.Float.Ieee.Exact.{HasValue, odd_sign, round_exact}
use Rattle.std.specs.Float.Ieee.Order.{le_of_values}
use Rattle.std.specs.Float.Ieee.Scale.{finite, round_same}
use Rattle.std.specs.Float.Ieee.Positive.{num, den, den_pos, positive, positive-finite, positive_of_value, value→cross, values_of_le, mul_at}
use Rattle.arithmetic.specs.Basic.{is_sign_minus}
use Rattle.arithmetic.specs.Operations.{◌⊗◌, bits, min_positive}
use Rattle.arithmetic.specs.Ln.{in_units, place, significand, exponent}
use Rattle.arithmetic.specs.Internal.Ln.{significand_of_bits, exponent_of_bits}
use Rattle.arithmetic.specs.Laws.Numbers.{lt_or_le, pow_split, size_is}
use Rattle.arithmetic.specs.Laws.Ratio.{ltb_ratio}
use Rattle.arithmetic.specs.Laws.Times.{has_sign, positive_sign}
use Rattle.arithmetic.specs.Laws.Patterns.{of_bits_is, read_zero, read_more, finite_field, subnormal, normal, built, bits_no_nan}
use Rattle.arithmetic.specs.Laws.Representable.{round_self}

-- ---- a value of a units of 2 ^ -1074, with a = q * 2 ^ d / 2 ^ 52 for a q of 53 digits
module _ (a q d : ℕ) (is : a * 2 ^ 52 ≡ q * 2 ^ d) (lo : 2 ^ 52 ≤ q) (hi : q < 2 ^ 53) where
  size_at : size a ≡ d + 1
  size_at =
      size_is a d
      (le_of_mul-le-mul_right (le_trans (le_of_eq (mul_comm (2 ^ d) (2 ^ 52))) (le_trans (mul-le-mul_right (2 ^ d) lo) (le_of_eq (sym is)))) (pow_pos 52))
      (lt_of_mul-lt-mul_right (2 ^ 52)
      (subst (λ (y : ℕ). y < 2 ^ (d + 1) * 2 ^ 52) (sym is)
      (lt_of_lt_of_le (shl_lt 53 d hi) (le_of_eq (sym (pow_split (d + 1) 52 (53 + d) (omega arith)))))))

  test_at : ltb (a * 2 ^ 20) (741455 * 2 ^ size a) ≡ nat_lt q 0x16a09e00000000
  test_at =
      ltb_ratio (2 ^ 85) (2 ^ (d + 53)) (pow_pos 85) (pow_pos (d + 53)) q 0x16a09e00000000 (a * 2 ^ 20) (741455 * 2 ^ size a)
      (mul_assoc a (2 ^ 20) (2 ^ 85)
      ∙ sym (mul_assoc a (2 ^ 52) (2 ^ 53))
      ∙ ap (λ (y : ℕ). y * 2 ^ 53) is
      ∙ mul_assoc q (2 ^ d) (2 ^ 53)
      ∙ ap (λ (y : ℕ). q * y) (sym (pow-add 2 d 53)))
      (ap (λ (y : ℕ). 741455 * 2 ^ y * 2 ^ 85) size_at
      ∙ mul_assoc 741455 (2 ^ (d + 1)) (2 ^ 85)
      ∙ ap (λ (y : ℕ). 741455 * y) (pow_split (d + 1) 85 (33 + (d + 53)) (omega arith) ∙ pow-add 2 33 (d + 53))
      ∙ sym (mul_assoc 741455 (2 ^ 33) (2 ^ (d + 53))))

  place_at : (b : Bool) → nat_lt q 0x16a09e00000000 ≡ b → place a ≡ cond b (d + 1 - 1) (d + 1)
  unfolding place
  place_at b e = rw (test_at, e, size_at)

  -- the pattern, moved down to t, tells the place p, and m, which is q * 2 ^ e units of 2 ^ -1074
  record Chosen (p t : ℕ) : Type 0 where
    e : ℕ
    small : e < 1023
    exact : e + p ≡ d + 1022
    pattern : e * 4503599627370496 + q ≡ t % 4503599627370496 + 0x3fe6a09e00000000
    place_is : p ≡ t / 4503599627370496

  chosen : Chosen (place a) (d * 4503599627370496 + q - 0x6a09e00000000)
  chosen = go (lt_or_le q 0x16a09e00000000)
    where
      below : (p : ℕ) → p ≡ d + 1 - 1 → q < 0x16a09e00000000 → Chosen p (d * 4503599627370496 + q - 0x6a09e00000000)
      below p e h = record { e = 1022; small = lit< tt; exact = omega arith; pattern = omega arith; place_is = omega arith }

      above : (p : ℕ) → p ≡ d + 1 → 0x16a09e00000000 ≤ q → Chosen p (d * 4503599627370496 + q - 0x6a09e00000000)
      above p e h = record { e = 1021; small = lit< tt; exact = omega arith; pattern = omega arith; place_is = omega arith }

      go : (q < 0x16a09e00000000) ⊎ (0x16a09e00000000 ≤ q) → Chosen (place a) (d * 4503599627370496 + q - 0x6a09e00000000)
      go (inl h) = below (place a) (place_at true (lt-ltb q 0x16a09e00000000 h)) h
      go (inr h) = above (place a) (place_at false (le-ltb q 0x16a09e00000000 h)) h

  scaled_at : (e p : ℕ) → e + p ≡ d + 1022 → a * 2 ^ 1074 ≡ q * 2 ^ e * 2 ^ p
  scaled_at e p h =
      sym (mul_assoc a (2 ^ 52) (2 ^ 1022))
      ∙ ap (λ (y : ℕ). y * 2 ^ 1022) is
      ∙ mul_assoc q (2 ^ d) (2 ^ 1022)
      ∙ ap (λ (y : ℕ). q * y) (sym (pow-add 2 d 1022) ∙ sym (pow_split e p (d + 1022) h))
      ∙ sym (mul_assoc q (2 ^ e) (2 ^ p))

  exact_at : HasValue (round binary64 false a (2 ^ place a)) false a (2 ^ place a)
  exact_at =
      let c = chosen in
      let far : 53 + c.e ≤ 2098 = omega (arith, c.small) in
      round_exact binary64 false a (2 ^ place a) q c.e (pow_pos (place a)) hi (lt_of_lt_of_le (shl_lt 53 c.e hi) (pow_mono far))
      (scaled_at c.e (place a) c.exact)

  significand_at : significand_of_bits (d * 4503599627370496 + q) ≡ round binary64 false a (2 ^ place a)
  significand_at =
      let c = chosen in
      let v = odd 53 false q c.e 1074 in
      let b = built c.e q (omega (arith, c.small)) lo hi in
      let v_fits : T (fits binary64 v) = subst (λ (y : Float). T (fits binary64 y)) b (of_bits-fits binary64 (c.e * 4503599627370496 + q)) in
      ap (of_bits binary64) (sym c.pattern)
      ∙ b
      ∙ sym (round_self binary64 v false (q * 2 ^ c.e) (2 ^ 1074) (pow_pos 1074) v_fits (odd_sign 53 false q c.e 1074))
      ∙ sym (round_same binary64 false a (2 ^ place a) (q * 2 ^ c.e) (2 ^ 1074) (pow_pos (place a)) (pow_pos 1074) (scaled_at c.e (place a) c.exact))

-- ---- m and k of a value above zero
in_units_is : (x : Float) (a : ℕ) → HasValue x false a (2 ^ 1074) → in_units x ≡ a
in_units_is x a v = ap (λ (y : ℕ). y / den x) (value→cross x a (2 ^ 1074) v) ∙ mul-div_cancel a (den_pos x)

-- m and k by the pattern b of x, whose exponent's field is counted from 52 on; and m is exact
pub record DecomposedBy (x : Float) (b : ℕ) : Type 0 where
  pub m_is : significand_of_bits b ≡ significand x
  pub k_is : exponent_of_bits b ≡ exponent x
  pub whole : num x * 2 ^ 1074 ≡ in_units x * den x
  pub exact : HasValue (significand x) false (in_units x) (2 ^ place (in_units x))

decomposed_at : (x : Float) (a q d : ℕ) → HasValue x false a (2 ^ 1074) → a * 2 ^ 52 ≡ q * 2 ^ d → 2 ^ 52 ≤ q → q < 2 ^ 53
    → DecomposedBy x (d * 4503599627370496 + q)
unfolding significand exponent
decomposed_at x a q d v is lo hi =
    let e = sym (in_units_is x a v) in
    record {
      m_is = significand_at a q d is lo hi ∙ ap (λ (y : ℕ). round binary64 false y (2 ^ place y)) e;
      k_is = ap (λ (y : ℕ). of_int binary64 (minus y 1074)) (sym (chosen a q d is lo hi).place_is ∙ ap place e);
      whole = value→cross x a (2 ^ 1074) v ∙ ap (λ (y : ℕ). y * den x) e;
      exact = subst (λ (y : ℕ). HasValue (round binary64 false y (2 ^ place y)) false y (2 ^ place y)) e (exact_at a q d is lo hi);
    }

-- ---- the pattern of a value above zero
sign_is : (s : Bool) (g t : ℕ) → g < 2048 → T (finite (of_fields binary64 s g t)) → is_sign_minus (of_fields binary64 s g t) ≡ s
sign_is s zero t G h = has_sign (of_fields binary64 s 0 t) s (t * 2 ^ 0) (2 ^ 1074) (read_zero s t)
sign_is s (suc g) t G h =
    has_sign (of_fields binary64 s (suc g) t) s ((4503599627370496 + t) * 2 ^ g) (2 ^ 1074) (read_more s g t (omega (arith, finite_field s (suc g) t h)))

zero_not : T (positive (of_bits binary64 0)) → ⊥
unfolding of_bits
zero_not h = h

pub positive_bits : (x : Float) → T (positive x) → T (fits binary64 x) → (0 < to_bits binary64 x) × (to_bits binary64 x < 9218868437227405312)
positive_bits x p f =
    let b = to_bits binary64 x in
    let s = nat_le 9223372036854775808 b in
    let g = b % 9223372036854775808 / 4503599627370496 in
    let t = b % 4503599627370496 in
    let is : x ≡ of_fields binary64 s g t = sym (of_bits-to_bits binary64 x f) ∙ of_bits_is b in
    let fine : T (finite (of_fields binary64 s g t)) = subst (λ (y : Float). T (finite y)) is (positive-finite x p) in
    let clear : s ≡ false = sym (sign_is s g t (omega arith) fine) ∙ ap is_sign_minus (sym is) ∙ positive_sign x p in
    let below : b < 9223372036854775808 = leb-false 9223372036854775808 b clear in
    let some : b ≡ 0 → ⊥ = λ e. zero_not (subst (λ (y : Float). T (positive y)) (sym (of_bits-to_bits binary64 x f) ∙ ap (of_bits binary64) e) p) in
    let part : g ≡ 2047 → ⊥ = finite_field s g t fine in
    (omega arith, omega arith)

-- what the pattern of a normal value stands for
read_normal : (x : Float) (b : ℕ) → of_bits binary64 b ≡ x → 4503599627370496 ≤ b → b < 9218868437227405312
    → HasValue x false ((4503599627370496 + b % 4503599627370496) * 2 ^ (b / 4503599627370496 - 1)) (2 ^ 1074)
read_normal x b X lo hi =
    let q = 4503599627370496 + b % 4503599627370496 in
    let j = b / 4503599627370496 - 1 in
    subst (λ (y : Float). HasValue y false (q * 2 ^ j) (2 ^ 1074)) (sym (normal b lo hi) ∙ X) (odd_sign 53 false q j 1074)

-- a subnormal value times 2 ^ 52, which is exact
abbrev pub raised : Float → Float
raised x = x ⊗ bits 0x4330000000000000

power_is : HasValue (bits 0x4330000000000000) false (2 ^ 52) 1
unfolding of_bits
power_is = (refl, refl)

read_low : (x : Float) (b : ℕ) → of_bits binary64 b ≡ x → b < 4503599627370496 → HasValue x false b (2 ^ 1074)
read_low x b X h =
    subst (λ (y : ℕ). HasValue x false y (2 ^ 1074)) (mul-one b)
    (subst (λ (y : Float). HasValue y false (b * 2 ^ 0) (2 ^ 1074)) (sym (subnormal b h) ∙ X) (odd_sign 53 false b 0 1074))

least_is : HasValue min_positive false 4503599627370496 (2 ^ 1074)
unfolding of_bits
least_is = (refl, refl)

module _ (x : Float) (p : T (positive x)) (f : T (fits binary64 x)) where
  abbrev b : ℕ
  b = to_bits binary64 x

  pub decomposed_normal : 4503599627370496 ≤ b → DecomposedBy x (b + 0x340000000000000)
  decomposed_normal lo =
      let q = 4503599627370496 + b % 4503599627370496 in
      let j = b / 4503599627370496 - 1 in
      let together : (j + 52) * 4503599627370496 + q ≡ b + 0x340000000000000 = omega arith in
      subst (DecomposedBy x) together
      (decomposed_at x (q * 2 ^ j) q (j + 52) (read_normal x b (of_bits-to_bits binary64 x f) lo (positive_bits x p f).1)
      (mul_assoc q (2 ^ j) (2 ^ 52) ∙ ap (λ (y : ℕ). q * y) (sym (pow-add 2 j 52))) (omega arith) (omega arith))

  -- the pattern is from 2 ^ 52 on where the value is normal
  pub normal_bits : T (le min_positive x) → 4503599627370496 ≤ b
  unfolding of_bits
  normal_bits h = elim (lt_or_le b 4503599627370496) [ inl l ↦ le_of_mul-le-mul_right (cross l) (pow_pos 1074) | inr l ↦ l ]
    where
      cross : b < 4503599627370496 → 4503599627370496 * 2 ^ 1074 ≤ b * 2 ^ 1074
      cross l = values_of_le min_positive x 4503599627370496 (2 ^ 1074) b (2 ^ 1074) tt p least_is (read_low x b (of_bits-to_bits binary64 x f) l) h

  pub subnormal_bits : le min_positive x ≡ false → b < 4503599627370496
  subnormal_bits h = elim (lt_or_le b 4503599627370496) [ inl l ↦ l | inr l ↦ absurd (true≢false (sym (is_true (le min_positive x) (reached l)) ∙ h)) ]
    where
      reached : 4503599627370496 ≤ b → T (le min_positive x)
      reached l =
          let q = 4503599627370496 + b % 4503599627370496 in
          let j = b / 4503599627370496 - 1 in
          let least : 4503599627370496 ≤ q = omega arith in
          le_of_values min_positive x 4503599627370496 (2 ^ 1074) (q * 2 ^ j) (2 ^ 1074) (pow_pos 1074) (pow_pos 1074) least_is
          (read_normal x b (of_bits-to_bits binary64 x f) l (positive_bits x p f).1) (mul-le-mul_right (2 ^ 1074) (mul-le-mul least (pow_pos j)))

  module _ (low : b < 4503599627370496) where
    value : HasValue x false b (2 ^ 1074)
    value = read_low x b (of_bits-to_bits binary64 x f) low

    raised_value : HasValue (raised x) false (b * 2 ^ 52) (2 ^ 1074)
    raised_value =
        let power = bits 0x4330000000000000 in
        subst (λ (y : Float). HasValue y false (b * 2 ^ 52) (2 ^ 1074))
        (sym (mul_at binary64 x power b (2 ^ 1074) (2 ^ 52) 1 p (positive_of_value power (2 ^ 52) 1 power_is (lit< tt))
        (pow_pos 1074) (lit< tt) value power_is))
        (round_exact binary64 false (b * 2 ^ 52) (2 ^ 1074) b 52 (pow_pos 1074) (lt_trans low (lit< tt)) (lt_trans (shl_lt 52 52 low) (lit< tt)) refl)

    pub raised_positive : T (positive (raised x))
    raised_positive = positive_of_value (raised x) (b * 2 ^ 52) (2 ^ 1074) raised_value (mul-pos (positive_bits x p f).0 (pow_pos 52))

    pub decomposed_subnormal : DecomposedBy x (to_bits binary64 (raised x)) × (4503599627370496 ≤ to_bits binary64 (raised x))
    decomposed_subnormal =
        let F = mul-fits binary64 x (bits 0x4330000000000000) in
        let c = to_bits binary64 (raised x) in
        go c (of_bits-to_bits binary64 (raised x) F) (positive_bits (raised x) raised_positive F).1 (lt_or_le c 4503599627370496)
      where
        same : (a : ℕ) → HasValue (raised x) false a (2 ^ 1074) → b * 2 ^ 52 ≡ a
        same a v = sym (in_units_is (raised x) (b * 2 ^ 52) raised_value) ∙ in_units_is (raised x) a v

        go : (c : ℕ) → of_bits binary64 c ≡ raised x → c < 9218868437227405312 → (c < 4503599627370496) ⊎ (4503599627370496 ≤ c)
            → DecomposedBy x c × (4503599627370496 ≤ c)
        go c Y hi (inl h) = absurd (omega (arith, (positive_bits x p f).0, same c (read_low (raised x) c Y h)))
        go c Y hi (inr h) =
            let q = 4503599627370496 + c % 4503599627370496 in
            let j = c / 4503599627370496 - 1 in
            let together : j * 4503599627370496 + q ≡ c = omega arith in
            let units = same (q * 2 ^ j) (read_normal (raised x) c Y h hi) in
            (subst (DecomposedBy x) together (decomposed_at x b q j value units (omega arith) (omega arith)), h)

-- ---- the m and the k of REQUIREMENTS 7: x = m * 2 ^ k, and the pattern of m is in its range
pub record Decomposition (x : Float) : Type 0 where
  pub k : ℤ
  pub k_is : exponent x ≡ of_int binary64 k
  pub value : num x * (den (significand x) * down k) ≡ num (significand x) * up k * den x
  pub least : 0x3fe6a09e00000000 ≤ to_bits binary64 (significand x)
  pub under : to_bits binary64 (significand x) < 0x3ff6a09e00000000

decomposed_any : (x : Float) → T (positive x) → T (fits binary64 x) → (b : ℕ) × DecomposedBy x b
decomposed_any x p f =
    elim (lt_or_le (to_bits binary64 x) 4503599627370496) [ inl h ↦ (_, (decomposed_subnormal x p f h).0) | inr h ↦ (_, decomposed_normal x p f h) ]

-- from nx / dx = a / E, nm / dm = a / P and U / D = P / E
same_value : (nx dx nm dm a P E U D : ℕ) → 0 < P → 0 < E → nx * E ≡ a * dx → nm * P ≡ a * dm → U * E ≡ P * D → nx * (dm * D) ≡ nm * U * dx
same_value nx dx nm dm a P E U D h_p h_e x m k =
    eq_of_mul-eq-mul_right (P * E) (mul-pos h_p h_e) (nx * (dm * D)) (nm * U * dx)
    ((let r : nx * (dm * D) * (P * E) ≡ nx * E * (dm * (P * D)) = simp (mul_assoc, mul_comm, mul_left_comm) in r)
    ∙ ap (λ (y : ℕ). y * (dm * (P * D))) x
    ∙ ap (λ (y : ℕ). a * dx * (dm * y)) (sym k)
    ∙ (let r : a * dx * (dm * (U * E)) ≡ a * dm * (dx * (U * E)) = simp (mul_assoc, mul_comm, mul_left_comm) in r)
    ∙ ap (λ (y : ℕ). y * (dx * (U * E))) (sym m)
    ∙ (let r : nm * P * (dx * (U * E)) ≡ nm * U * dx * (P * E) = simp (mul_assoc, mul_comm, mul_left_comm) in r))

pub decomposition : (x : Float) → T (positive x) → T (fits binary64 x) → Decomposition x
unfolding exponent
decomposition x p f =
    let (c, s) = decomposed_any x p f in
    let a = in_units x in
    let k = minus (place a) 1074 in
    let b = (c - 0x6a09e00000000) % 4503599627370496 + 0x3fe6a09e00000000 in
    let number : T (not (is_nan (of_bits binary64 b))) = subst (λ (y : Bool). T (not y)) (nan_bits_is binary64 b) (bits_no_nan b (omega arith)) in
    let e : b ≡ to_bits binary64 (significand x) = sym (to_bits-of_bits binary64 b (omega arith) number) ∙ ap (to_bits binary64) s.m_is in
    record {
      k = k;
      k_is = refl;
      value =
          same_value (num x) (den x) (num (significand x)) (den (significand x)) a (2 ^ place a) (2 ^ 1074) (up k) (down k)
          (pow_pos (place a)) (pow_pos 1074) s.whole (value→cross (significand x) a (2 ^ place a) s.exact)
          (simp one-mul at (minus_val 1 (place a) 1074));
      least = omega arith;
      under = omega arith;
    }
