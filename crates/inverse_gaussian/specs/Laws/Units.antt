-- Values above 0 in units of the smallest one, 2 ^ -1074: twice and half of a value are exact, or past the end of the range. Assumes nothing.
use mathlib.Core.Path.{◌≡◌, refl, sym, ap, subst, ◌∙◌}
use mathlib.Core.Logic.{◌⊎◌, inl, inr}
use Prim.Native.Nat.{ℕ, zero, suc, ◌*◌, ◌^◌, ◌≤◌, ◌<◌}
use native.Mathlib.Nat.{le_trans, le_of_eq, mul-one, one-mul, mul_assoc, mul_comm, mul_right_comm, pow-suc}
use native.Mathlib.Nat.{mul-pos, mul-le-mul_right, le_of_mul-le-mul_right, eq_of_mul-eq-mul_right}
use native.Mathlib.Omega.{arith}
use mathlib.Core.Bool.{false, true}
use lib.Dec.{T}
use lib.Pow.{pow_pos}
use lib.Ieee.{Float, inf, binary64, fits, round, le, of_bits}
use lib.Ieee.Bits.{is_true}
use lib.Ieee.Fits.{mul-fits}
use lib.Ieee.Exact.{HasValue, round_exact}
use lib.Ieee.Order.{round_mono}
use lib.Ieee.Scale.{finite}
use lib.Ieee.Positive.{positive, num, den, den_pos, positive-finite, positive_of_value, value_pos}
use Rattle.arithmetic.specs.Operations.{◌⊗◌, half, two, min_positive}
use Rattle.arithmetic.specs.Basic.{is_sign_minus}
use Rattle.arithmetic.specs.Laws.Numbers.{lt_or_le}
use Rattle.arithmetic.specs.Laws.Times.{cross, rescale, positive_sign, positive_value}
use Rattle.arithmetic.specs.Laws.Representable.{representable, value_under}
use Rattle.arithmetic.specs.Laws.Bounds.{round_to_infinity}
use Rattle.arithmetic.specs.Laws.Products.{mul_is}
use Rattle.arithmetic.specs.Laws.ScaledRatios.{min_positive_is}

-- x is n units
pub record Units (n : ℕ) (x : Float) : Type 0 where
  pub above : T (positive x)
  pub fit : T (fits binary64 x)
  pub value : num x * 2 ^ 1074 ≡ n * den x

-- every value above 0 is a number of units
pub units : (x : Float) → T (positive x) → T (fits binary64 x) → (n : ℕ) × (0 < n) × Units n x
units x p f =
    let o = representable binary64 x f (positive-finite x p) in
    let n = o.digits * 2 ^ o.place in
    (n, value_pos x n (2 ^ 1074) p (pow_pos 1074) (positive_value x n (2 ^ 1074) p o.exact), record { above = p; fit = f; value = o.exact })

module _ (n : ℕ) (x : Float) (u : Units n x) where
  -- below the end of the range
  pub under : n < 2 ^ 2098
  under = value_under binary64 x false n u.fit (positive_value x n (2 ^ 1074) u.above u.value)

  -- n is 53 digits before zeros
  parts : (q : ℕ) × (i : ℕ) × (q < 2 ^ 53) × (n ≡ q * 2 ^ i)
  parts =
      let o = representable binary64 x u.fit (positive-finite x u.above) in
      (o.digits, o.place, o.few, eq_of_mul-eq-mul_right (den x) (den_pos x) n (o.digits * 2 ^ o.place) (sym u.value ∙ o.exact))

  module _ (p : Float) (P : T (finite p)) (S : is_sign_minus p ≡ false) where
    -- times p, which is not below 0
    product : x ⊗ p ≡ round binary64 false (num x * num p) (den x * den p)
    product = mul_is binary64 x p (positive-finite x u.above) P ∙ rw (positive_sign x u.above, S)

    -- a product that is m units, 53 digits before zeros and below the end of the range, is exact
    exact : (m q i : ℕ) → m * den p ≡ n * num p → m ≡ q * 2 ^ i → q < 2 ^ 53 → 0 < m → m < 2 ^ 2098 → Units m (x ⊗ p)
    exact m q i e d few more less = record {
      above = subst (λ (z : Float). T (positive z)) (sym product) (positive_of_value r m (2 ^ 1074) w more);
      fit = mul-fits binary64 x p;
      value = subst (λ (z : Float). num z * 2 ^ 1074 ≡ m * den z) (sym product) (cross r false m (2 ^ 1074) w);
    }
      where
        r : Float
        r = round binary64 false (num x * num p) (den x * den p)

        C : 0 < den x * den p
        C = mul-pos (den_pos x) (den_pos p)

        same : num x * num p * 2 ^ 1074 ≡ m * (den x * den p)
        same =
            mul_right_comm (num x) (num p) (2 ^ 1074)
            ∙ ap (λ (z : ℕ). z * num p) u.value
            ∙ mul_right_comm n (den x) (num p)
            ∙ ap (λ (z : ℕ). z * den x) (sym e)
            ∙ mul_right_comm m (den p) (den x)
            ∙ mul_assoc m (den x) (den p)

        w : HasValue r false m (2 ^ 1074)
        w =
            let N = num x * num p in
            let D = den x * den p in
            let in_range : q * 2 ^ i < 2 ^ 2098 = subst (λ (z : ℕ). z < 2 ^ 2098) d less in
            rescale r false N D m (2 ^ 1074) C (sym same)
            (round_exact binary64 false N D q i C few in_range (same ∙ ap (λ (z : ℕ). z * D) d))

  module _ (N : 0 < n) where
    -- twice x overflows or is exact
    pub twice : (x ⊗ two ≡ inf false) ⊎ Units (n * 2) (x ⊗ two)
    unfolding of_bits
    twice = go (lt_or_le (n * 2) (2 ^ 2098))
      where
        go : (n * 2 < 2 ^ 2098) ⊎ (2 ^ 2098 ≤ n * 2) → (x ⊗ two ≡ inf false) ⊎ Units (n * 2) (x ⊗ two)
        go (inl l) =
            let (q, i, few, d) = parts in
            let e : n * 2 ≡ q * 2 ^ suc i = ap (λ (z : ℕ). z * 2) d ∙ mul_assoc q (2 ^ i) 2 ∙ ap (λ (z : ℕ). q * z) (sym (pow-suc 2 i)) in
            inr (exact two tt refl (n * 2) q (suc i) (mul-one (n * 2)) e few (mul-pos N (pow_pos 1)) l)
        go (inr g) = inl (product two tt refl ∙ round_to_infinity false (num x * 2) (den x * 1) (mul-pos (den_pos x) (pow_pos 0)) big)
          where
            big : 2 ^ 1024 * (den x * 1) ≤ num x * 2
            big =
                let same : n * 2 * (den x * 1) ≡ num x * 2 * 2 ^ 1074 =
                ap (λ (z : ℕ). n * 2 * z) (mul-one (den x))
                ∙ mul_right_comm n 2 (den x)
                ∙ ap (λ (z : ℕ). z * 2) (sym u.value)
                ∙ mul_right_comm (num x) (2 ^ 1074) 2 in
                le_of_mul-le-mul_right
                (le_trans (le_of_eq (mul_right_comm (2 ^ 1024) (den x * 1) (2 ^ 1074))) (le_trans (mul-le-mul_right (den x * 1) g) (le_of_eq same)))
                (pow_pos 1074)

    -- where x is above 2 ^ -1021, half of it is exact
    pub halfway : 2 ^ 53 < n → (m : ℕ) × (n ≡ m * 2) × Units m (x ⊗ half)
    unfolding of_bits
    halfway g = let (q, i, few, d) = parts in go q i few d
      where
        less : (m k : ℕ) → n ≡ m * 2 → n < k → m < k
        less m k e h = omega arith

        go : (q i : ℕ) → q < 2 ^ 53 → n ≡ q * 2 ^ i → (m : ℕ) × (n ≡ m * 2) × Units m (x ⊗ half)
        go q zero few d = absurd (omega (arith, mul-one q))
        go q (suc i) few d =
            let m = q * 2 ^ i in
            let e : n ≡ m * 2 = d ∙ ap (λ (z : ℕ). q * z) (pow-suc 2 i) ∙ sym (mul_assoc q (2 ^ i) 2) in
            (m, e, exact half tt refl m q i (sym e ∙ sym (mul-one n)) refl few (omega arith) (less m (2 ^ 2098) e under))

  -- where x is at most 2 ^ -1021, half of it is at most the smallest normal value
  pub small : n ≤ 2 ^ 53 → le (x ⊗ half) min_positive ≡ true
  unfolding of_bits
  small h =
      is_true (le (x ⊗ half) min_positive)
      (rw (product half tt refl)
      (subst (λ (z : Float). T (le (round binary64 false (num x * 1) (den x * 2)) z)) min_positive_is
      (round_mono binary64 (num x * 1) (den x * 2) 1 (2 ^ 1022) (mul-pos (den_pos x) (pow_pos 1)) (pow_pos 1022) low)))
    where
      low : num x * 1 * 2 ^ 1022 ≤ 1 * (den x * 2)
      low =
          let left : num x * 1 * 2 ^ 1022 * 2 ^ 52 ≡ n * den x =
          mul_assoc (num x * 1) (2 ^ 1022) (2 ^ 52) ∙ ap (λ (z : ℕ). z * 2 ^ 1074) (mul-one (num x)) ∙ u.value in
          let right : 2 ^ 53 * den x ≡ 1 * (den x * 2) * 2 ^ 52 =
          mul_comm (2 ^ 53) (den x) ∙ sym (mul_assoc (den x) 2 (2 ^ 52)) ∙ ap (λ (z : ℕ). z * 2 ^ 52) (sym (one-mul (den x * 2))) in
          le_of_mul-le-mul_right (le_trans (le_of_eq left) (le_trans (mul-le-mul_right (den x) h) (le_of_eq right))) (pow_pos 52)
