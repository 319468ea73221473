-- A fraction in the normal range, of which 2 ^ k times as much overflows, rounds to more than every value of which 2 ^ k times as much is a value.
-- Assumes nothing.
use Rattle.std.specs.Prelude.{◌≡◌, ℕ, ◌+◌, ◌*◌, ◌^◌, ◌<◌, ◌≤◌, Bool, true, false, T, ◌⊎◌, nat_lt, refl, Float}
use Rattle.std.proofs.Common.{sym, ap, ◌∙◌, subst, inl, inr, arith, le_trans, le_of_eq, lt_of_lt_of_le, lt_of_le_of_lt, mul_assoc, mul_comm, mul_left_comm, mul_right_comm, mul-pos, mul-le-mul_right, mul-lt-mul_of_pos_right, lt_of_mul-lt-mul_right, lt→ltb}
use Rattle.std.proofs.Math.Nat.{eq_of_mul-eq-mul_right}
use Rattle.std.specs.Float.{binary64}
use Rattle.std.specs.Float.Ieee.{low, round, lt, below, fits}
use Rattle.std.specs.Float.Ieee.Bits.{is_true}
use Rattle.std.specs.Float.Ieee.Scale.{finite, grid, overflow, round_same}
use Rattle.std.specs.Float.Ieee.Positive.{num, den, den_pos}
use Rattle.arithmetic.specs.Basic.{is_sign_minus}
use Rattle.arithmetic.specs.Laws.Numbers.{lt_or_le}
use Rattle.arithmetic.specs.Laws.Times.{Times, cross, of_cross}
use Rattle.arithmetic.specs.Laws.Rounding.{Normal, safe_grid, round_value, round_under}
use Rattle.arithmetic.specs.Laws.Representable.{whole, value_under}
use Rattle.arithmetic.specs.Laws.Sums.{round_finite}
use Rattle.arithmetic.specs.Laws.Compare.{lt_is}
use Rattle.arithmetic.specs.Laws.Sizes.{round_minus}

-- a value is w units of the format's smallest, and w is below the overflow
units_below : (y : Float) → T (fits binary64 y) → T (finite y) → (w : ℕ) × (num y * 2 ^ low binary64 ≡ w * den y) × (w < overflow binary64)
units_below y F p =
    let (w, e) = whole binary64 y F p in
    (w, e, value_under binary64 y (is_sign_minus y) w F (of_cross y (is_sign_minus y) w (2 ^ low binary64) p refl e))

-- n / d is a value, of which r times as much, n' / d', is w units 1 / l: it is below q / b of g units where r * g is more than w
less : (n d n' d' r l w q b g o : ℕ) → 0 < d → 0 < d' → 0 < b → n' * d ≡ n * r * d' → n' * l ≡ w * d' → w < o → o ≤ g * r → q * l ≡ g * b
    → n * b < q * d
less n d n' d' r l w q b g o D D' B times units small over value =
    lt_of_mul-lt-mul_right (r * l)
    (lt_of_le_of_lt (le_of_eq left) (lt_of_lt_of_le (mul-lt-mul_of_pos_right small (mul-pos D B)) (le_trans (mul-le-mul_right (d * b) over) (le_of_eq right))))
  where
    scaled : n * r * l ≡ w * d
    scaled =
        eq_of_mul-eq-mul_right d' D' (n * r * l) (w * d)
        (mul_right_comm (n * r) l d'
        ∙ ap (λ (z : ℕ). z * l) (sym times)
        ∙ mul_right_comm n' d l
        ∙ ap (λ (z : ℕ). z * d) units
        ∙ mul_right_comm w d' d)

    left : n * b * (r * l) ≡ w * (d * b)
    left = (let i : n * b * (r * l) ≡ n * r * l * b = simp (mul_assoc, mul_comm, mul_left_comm) in i) ∙ ap (λ (z : ℕ). z * b) scaled ∙ mul_assoc w d b

    right : g * r * (d * b) ≡ q * d * (r * l)
    right =
        (let i : g * r * (d * b) ≡ g * b * (r * d) = simp (mul_assoc, mul_comm, mul_left_comm) in i)
        ∙ ap (λ (z : ℕ). z * (r * d)) (sym value)
        ∙ (let i : q * l * (r * d) ≡ q * d * (r * l) = simp (mul_assoc, mul_comm, mul_left_comm) in i)

module _ (k a c a' c' : ℕ) (C : 0 < c) (C' : 0 < c') (e : a' * c ≡ a * (2 ^ k * c')) (N : Normal binary64 a c) where
  abbrev smaller : Float
  smaller = round binary64 false a c

  abbrev larger : Float
  larger = round binary64 false a' c'

  past : (T (finite larger) → ⊥) → overflow binary64 ≤ grid binary64 a c * 2 ^ k
  past h = go (lt_or_le (grid binary64 (a * 2 ^ k) c) (overflow binary64))
    where
      same : larger ≡ round binary64 false (a * 2 ^ k) c
      same = round_same binary64 false a' c' (a * 2 ^ k) c C' C (e ∙ sym (mul_assoc a (2 ^ k) c'))

      go : (grid binary64 (a * 2 ^ k) c < overflow binary64) ⊎ (overflow binary64 ≤ grid binary64 (a * 2 ^ k) c)
          → overflow binary64 ≤ grid binary64 a c * 2 ^ k
      go (inl l) = absurd (h (subst (λ (z : Float). T (finite z)) (sym same) (round_finite binary64 false (a * 2 ^ k) c l)))
      go (inr g) = le_trans g (le_of_eq (safe_grid binary64 a c k C (inl N)))

  module _ (p : T (finite smaller)) (h : T (finite larger) → ⊥) (y y' : Float) (F : T (fits binary64 y')) (t : Times k y y') where
    under : num y * den smaller < num smaller * den y
    under =
        let (w, u, small) = units_below y' F t.finite_r in
        let value = cross smaller false (grid binary64 a c) (2 ^ low binary64) (round_value binary64 false a c (round_under binary64 false a c p)) in
        less (num y) (den y) (num y') (den y') (2 ^ k) (2 ^ low binary64) w (num smaller) (den smaller) (grid binary64 a c) (overflow binary64)
        (den_pos y) (den_pos y') (den_pos smaller) t.value u small (past h) value

    pub overflow_above : lt y smaller ≡ true
    overflow_above =
        lt_is y smaller t.finite_l p
        ∙ ap (λ (z : Bool). below (is_sign_minus y) (num y * den smaller) z (num smaller * den y)) (round_minus false a c)
        ∙ go (is_sign_minus y) (num y * den smaller) (num smaller * den y) under
      where
        go : (s : Bool) (a b : ℕ) → a < b → below s a false b ≡ true
        go false a b l = is_true (nat_lt a b) (lt→ltb a b l)
        go true a b l = is_true (nat_lt 0 (a + b)) (lt→ltb 0 (a + b) (omega arith))
