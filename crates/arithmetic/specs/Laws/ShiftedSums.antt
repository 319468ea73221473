-- Sums near 3 * 2 ^ 51 / 2 ^ i. A value of this size is a multiple of 1 / 2 ^ i, so the sum is rounded to one, and the last digits of its pattern count
-- them. 4503599627370496 is 2 ^ 52, 2251799813685248 is 2 ^ 51, 6755399441055744 is 3 * 2 ^ 51. Assumes nothing.
use Rattle.std.specs.Prelude.{◌≡◌, ℕ, ◌+◌, ◌-◌, ◌*◌, ◌/◌, ◌^◌, ◌<◌, ◌≤◌, false, T, ◌⊎◌, from_bits, is_nan, to_bits, Float}
use Rattle.std.proofs.Common.{sym, ap, ◌∙◌, subst, inl, inr, le_trans, le_of_eq, lt_of_lt_of_le, not-le_of_lt, mul_assoc, mul_right_comm, mul-lt-mul_of_pos_right, lt_of_mul-lt-mul_right, le_of_mul-le-mul_right, le-div_iff_mul-le, div-lt_iff_lt-mul, arith, pow-add, pow_pos, pow_mono, shl_lt}
use Rattle.std.proofs.Math.Nat.{eq_of_mul-eq-mul_right}
use Rattle.std.specs.Float.{binary64}
use Rattle.std.specs.Float.Ieee.{odd, round, fits}
use Rattle.std.specs.Float.Ieee.Bits.{of_bits-fits, to_bits-of_bits}
use Rattle.std.specs.Float.Ieee.Fits.{round-fits}
use Rattle.std.specs.Float.Ieee.Exact.{HasValue, odd_sign}
use Rattle.std.specs.Float.Ieee.Digits.{back}
use Rattle.std.specs.Float.Ieee.Positive.{num, den, den_pos}
use Rattle.arithmetic.specs.Laws.Numbers.{lt_or_le, pow_split, false_not}
use Rattle.arithmetic.specs.Laws.Times.{has_finite, of_cross, rescale}
use Rattle.arithmetic.specs.Laws.Patterns.{built, value_unique}
use Rattle.arithmetic.specs.Laws.Representable.{representable}
use Rattle.arithmetic.specs.Laws.Compare.{finite_no_nan}
use Rattle.arithmetic.specs.Laws.Sizes.{grain_held, round_upper, round_lower}

-- from 2 ^ 52 on every value n / l, of q * 2 ^ j smallest values, is whole
large_place : (n l q j : ℕ) → 0 < l → n * 2 ^ 1074 ≡ q * 2 ^ j * l → q < 2 ^ 53 → 2 ^ 52 ≤ n / l → 1074 ≤ j
large_place n l q j L e h b = go (lt_or_le j 1074)
  where
    room : (j : ℕ) → j < 1074 → 53 + j ≤ 1126
    room j g = omega arith

    small : j < 1074 → n < 2 ^ 52 * l
    small g =
        lt_of_mul-lt-mul_right (2 ^ 1074)
        (subst (λ (z : ℕ). z < 2 ^ 52 * l * 2 ^ 1074) (sym e)
        (lt_of_lt_of_le (mul-lt-mul_of_pos_right (lt_of_lt_of_le (shl_lt 53 j h) (pow_mono (room j g))) L)
        (le_of_eq (mul_right_comm (2 ^ 52) (2 ^ 1074) l))))

    go : (j < 1074) ⊎ (1074 ≤ j) → 1074 ≤ j
    go (inl g) = absurd (not-le_of_lt ((div-lt_iff_lt-mul L).1 (small g)) b)
    go (inr g) = g

pub whole_large : (n l q j : ℕ) → 0 < l → n * 2 ^ 1074 ≡ q * 2 ^ j * l → q < 2 ^ 53 → 2 ^ 52 ≤ n / l → n ≡ q * 2 ^ (j - 1074) * l
whole_large n l q j L e h g =
    let b = large_place n l q j L e h g in
    eq_of_mul-eq-mul_right (2 ^ 1074) (pow_pos 1074) n (q * 2 ^ (j - 1074) * l)
    (e
    ∙ ap (λ (z : ℕ). q * z * l) (sym (pow_split (j - 1074) 1074 j (back j 1074 b)))
    ∙ ap (λ (z : ℕ). z * l) (sym (mul_assoc q (2 ^ (j - 1074)) (2 ^ 1074)))
    ∙ mul_right_comm (q * 2 ^ (j - 1074)) (2 ^ 1074) l)

-- t is (3 * 2 ^ 51 + j) / 2 ^ i, for a j from lo to hi
pub record Shifted (i lo hi : ℕ) (t : Float) : Type 0 where
  pub j : ℕ
  pub least : lo ≤ j
  pub most : j ≤ hi
  pub value : HasValue t false (6755399441055744 + j) (2 ^ i)

-- what lies from (3 * 2 ^ 51 + lo) / 2 ^ i to (3 * 2 ^ 51 + hi) / 2 ^ i is rounded to such a t
pub round_shifted : (i lo hi a c : ℕ) → 0 < c → i ≤ 1074 → lo ≤ hi → hi < 2251799813685248
    → (6755399441055744 + lo) * c ≤ a * 2 ^ i → a * 2 ^ i ≤ (6755399441055744 + hi) * c → Shifted i lo hi (round binary64 false a c)
round_shifted i lo hi a c C I L H above under =
    let r = round binary64 false a c in
    let n = num r * 2 ^ i in
    let l = den r in
    let top = round_upper false a c (6755399441055744 + hi) (2 ^ i) C (pow_pos i) (grain_held (6755399441055744 + hi) i (omega arith) I) under in
    let bottom : (6755399441055744 + lo) * l ≤ n =
    round_lower false a c (6755399441055744 + lo) (2 ^ i) C (pow_pos i) (grain_held (6755399441055744 + lo) i (omega arith) I) top.0 above in
    let o = representable binary64 r (round-fits binary64 false a c) top.0 in
    let w = o.digits * 2 ^ (o.place + i - 1074) in
    let n_is : n ≡ w * l =
    whole_large n l o.digits (o.place + i) (den_pos r) (places (num r) l o.digits o.place o.exact) o.few
    ((le-div_iff_mul-le (den_pos r)).1 (le_trans (far l) bottom)) in
    let w_lo : 6755399441055744 + lo ≤ w = le_of_mul-le-mul_right (le_trans bottom (le_of_eq n_is)) (den_pos r) in
    let w_hi : w ≤ 6755399441055744 + hi = le_of_mul-le-mul_right (le_trans (le_of_eq (sym n_is)) top.2) (den_pos r) in
    record {
      j = w - 6755399441055744;
      least = omega (arith, w_lo);
      most = omega (arith, w_hi);
      value = of_cross r false (6755399441055744 + (w - 6755399441055744)) (2 ^ i) top.0 top.1 (n_is ∙ ap (λ (z : ℕ). z * l) (again w w_lo));
    }
  where
    far : (l : ℕ) → 4503599627370496 * l ≤ (6755399441055744 + lo) * l
    far l = omega arith

    again : (w : ℕ) → 6755399441055744 + lo ≤ w → w ≡ 6755399441055744 + (w - 6755399441055744)
    again w h = omega arith

    places : (n l q k : ℕ) → n * 2 ^ 1074 ≡ q * 2 ^ k * l → n * 2 ^ i * 2 ^ 1074 ≡ q * 2 ^ (k + i) * l
    places n l q k e =
        mul_right_comm n (2 ^ i) (2 ^ 1074)
        ∙ ap (λ (z : ℕ). z * 2 ^ i) e
        ∙ mul_right_comm (q * 2 ^ k) l (2 ^ i)
        ∙ ap (λ (z : ℕ). z * l) (mul_assoc q (2 ^ k) (2 ^ i) ∙ ap (λ (z : ℕ). q * z) (sym (pow-add 2 k i)))

-- ---- its pattern
module _ (k i lo hi : ℕ) (e : k + i ≡ 1074) (H : hi < 2251799813685248) (t : Float) (F : T (fits binary64 t)) (S : Shifted i lo hi t) where
  pub shifted_bits : to_bits binary64 t ≡ k * 4503599627370496 + (6755399441055744 + S.j)
  shifted_bits =
      let n = 6755399441055744 + S.j in
      let few : n < 9007199254740992 = omega (arith, H, S.most) in
      let b = k * 4503599627370496 + n in
      let v = from_bits binary64 b in
      let is : v ≡ odd 53 false n k 1074 = built k n (omega arith) (omega arith) few in
      let value : HasValue v false n (2 ^ i) =
      subst (λ (z : Float). HasValue z false n (2 ^ i)) (sym is)
      (rescale (odd 53 false n k 1074) false (n * 2 ^ k) (2 ^ 1074) n (2 ^ i) (pow_pos 1074) (scale n) (odd_sign 53 false n k 1074)) in
      let no_nan = false_not (is_nan v) (finite_no_nan v (has_finite v false n (2 ^ i) value)) in
      ap (to_bits binary64) (value_unique binary64 t v false n (2 ^ i) (pow_pos i) F (of_bits-fits binary64 b) S.value value)
      ∙ to_bits-of_bits binary64 b (omega (arith, e, few)) no_nan
    where
      scale : (n : ℕ) → n * 2 ^ 1074 ≡ n * 2 ^ k * 2 ^ i
      scale n = ap (λ (z : ℕ). n * z) (sym (pow_split k i 1074 e)) ∙ sym (mul_assoc n (2 ^ k) (2 ^ i))

  pub shifted_no_nan : is_nan t ≡ false
  shifted_no_nan = finite_no_nan t (has_finite t false (6755399441055744 + S.j) (2 ^ i) S.value)
