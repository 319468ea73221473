-- The quotient of two values of binary64, 0 < p < b, is 1 - 2 ^ -53 at most, subnormal values included; and 1 less a value from 2 ^ -j to 1 - 2 ^ -j is such
-- a value, for j up to 53. 9007199254740992 is 2 ^ 53. Assumes nothing.
use Rattle.std.specs.Prelude.{◌≡◌, ℕ, ◌+◌, ◌-◌, ◌*◌, ◌^◌, ◌<◌, ◌≤◌, true, false, T, Float}
use Rattle.std.proofs.Math.Path.{refl}
use Rattle.std.proofs.Common.{sym, ap, ◌∙◌, subst, inl, inr, le_trans, le_of_lt, mul_assoc, mul-pos, mul-le-mul_left, mul-le-mul_right, le_of_mul-le-mul_right, lt_of_mul-lt-mul_right, arith, lit≤, pow-add, pow_pos, pow_mono}
use Rattle.std.proofs.Math.Nat.{mul-one, one-mul}
use borrow.Author.Tests.{ltb-true, le-ltb}
use Rattle.std.specs.Float.Ieee.{binary64, round, sum, lt, le, fits, of_bits}
use Rattle.std.specs.Float.Ieee.Digits.{back}
use Rattle.std.specs.Float.Ieee.Scale.{finite}
use Rattle.std.specs.Float.Ieee.Positive.{num, den, den_pos, positive, positive-finite}
use Rattle.arithmetic.specs.Operations.{◌⊖◌, ◌⊘◌, bits, plus_zero, one}
use Rattle.arithmetic.specs.Basic.{is_sign_minus}
use Rattle.arithmetic.specs.Laws.Numbers.{lt_or_le}
use Rattle.arithmetic.specs.Laws.Choices.{refuted}
use Rattle.arithmetic.specs.Laws.Times.{num_positive, positive_sign}
use Rattle.arithmetic.specs.Laws.Representable.{Representable, representable}
use Rattle.arithmetic.specs.Laws.Compare.{lt_is}
use Rattle.arithmetic.specs.Laws.Sums.{difference_is}
use Rattle.arithmetic.specs.Laws.Products.{div_is}
use Rattle.arithmetic.specs.Laws.ScaledRatios.{positive_zero}
use Rattle.arithmetic.specs.Laws.Bounds.{AtMost, round_at_most, at_most_le, le_cross}
use Rattle.arithmetic.specs.Laws.Sizes.{grain_held, round_upper, round_lower}

-- ---- of two whole numbers a 2 ^ i < d 2 ^ j, with a and d of at most q, the first is at most q / (q + 1) times the second
one_step : (n m u : ℕ) → n * u < m * u → n * u + u ≤ m * u
one_step n m u h = let l : (n + 1) * u ≤ m * u = mul-le-mul_right u (omega (arith, lt_of_mul-lt-mul_right u h)) in omega arith

enough : (q x y u : ℕ) → x ≤ q * u → x + u ≤ y → x * (q + 1) ≤ q * y
enough q x y u h g = let l : q * (x + u) ≤ q * y = mul-le-mul_left q g in omega arith

split : (d i j : ℕ) → i ≤ j → d * 2 ^ j ≡ d * 2 ^ (j - i) * 2 ^ i
split d i j h = ap (λ (z : ℕ). d * 2 ^ z) (sym (back j i h)) ∙ ap (λ (z : ℕ). d * z) (pow-add 2 (j - i) i) ∙ sym (mul_assoc d (2 ^ (j - i)) (2 ^ i))

-- they differ by the lower of the two powers at least, and the first is at most q times that power
apart : (q a i d j : ℕ) → a ≤ q → d ≤ q → a * 2 ^ i < d * 2 ^ j → a * 2 ^ i * (q + 1) ≤ q * (d * 2 ^ j)
apart q a i d j A D h = elim (lt_or_le i j) [
  | inl l ↦
      let e : d * 2 ^ j ≡ d * 2 ^ (j - i) * 2 ^ i = split d i j (le_of_lt l) in
      enough q (a * 2 ^ i) (d * 2 ^ j) (2 ^ i) (mul-le-mul_right (2 ^ i) A) (rw e (one_step a (d * 2 ^ (j - i)) (2 ^ i) (rw (sym e) h)))
  | inr l ↦
      let e : a * 2 ^ i ≡ a * 2 ^ (i - j) * 2 ^ j = split a j i l in
      enough q (a * 2 ^ i) (d * 2 ^ j) (2 ^ j) (le_trans (le_of_lt h) (mul-le-mul_right (2 ^ j) D))
      (rw e (one_step (a * 2 ^ (i - j)) d (2 ^ j) (rw (sym e) h)))
]

-- ---- as fractions of two values
fractions : (n d m e x y l : ℕ) → 0 < d → 0 < e → 0 < l → n * l ≡ x * d → m * l ≡ y * e → n * e < m * d
    → (x < y → x * 9007199254740992 ≤ 9007199254740991 * y) → n * e * 9007199254740992 ≤ 9007199254740991 * (m * d)
fractions n d m e x y l D E L p q h f =
    let p' : n * l * e ≡ x * d * e = ap (λ (z : ℕ). z * e) p in
    let q' : m * l * d ≡ y * e * d = ap (λ (z : ℕ). z * d) q in
    let less : x < y = lt_of_mul-lt-mul_right (d * e) (omega (arith, mul-le-mul_right l h)) in
    let g : x * 9007199254740992 * (d * e) ≤ 9007199254740991 * y * (d * e) = mul-le-mul_right (d * e) (f less) in
    le_of_mul-le-mul_right (omega arith) L

pub fraction_below : (p b : Float) → T (fits binary64 p) → T (fits binary64 b) → T (finite p) → T (finite b) → num p * den b < num b * den p
    → num p * den b * 9007199254740992 ≤ 9007199254740991 * (num b * den p)
fraction_below p b F G s t h =
    let o : Representable binary64 p = representable binary64 p F s in
    let w : Representable binary64 b = representable binary64 b G t in
    fractions (num p) (den p) (num b) (den b) (o.digits * 2 ^ o.place) (w.digits * 2 ^ w.place) (2 ^ 1074) (den_pos p) (den_pos b) (pow_pos 1074)
    o.exact w.exact h (apart 9007199254740991 o.digits o.place w.digits w.place (few o.digits o.few) (few w.digits w.few))
  where
    few : (n : ℕ) → n < 2 ^ 53 → n ≤ 9007199254740991
    few n h = omega arith

-- ---- THE QUOTIENT
-- 1 - 2 ^ -53, the largest value below 1
abbrev pub next_down_one : Float
next_down_one = bits 0x3FEF_FFFF_FFFF_FFFF

next_down_parts : (num next_down_one ≡ 9007199254740991) × (den next_down_one ≡ 9007199254740992) × (is_sign_minus next_down_one ≡ false)
unfolding of_bits
next_down_parts = (refl, refl, refl)

next_down_value : T (fits binary64 next_down_one) × T (finite next_down_one)
unfolding fits of_bits
next_down_value = (tt, tt)

pub quotient_below_one : (p b : Float) → T (fits binary64 p) → T (fits binary64 b) → T (positive p) → T (positive b) → lt p b ≡ true
    → AtMost false next_down_one (p ⊘ b)
quotient_below_one p b F G s t h =
    let c = positive-finite p s in
    let d = positive-finite b t in
    let less : num p * den b < num b * den p =
    ltb-true (num p * den b) (num b * den p) (sym (lt_is p b c d ∙ rw (positive_sign p s, positive_sign b t)) ∙ h) in
    let is : p ⊘ b ≡ round binary64 false (num p * den b) (num b * den p) =
    div_is binary64 p b c d ∙ rw (positive_sign p s, positive_sign b t, positive_zero (num b) (num_positive b t)) in
    subst (AtMost false next_down_one) (sym is)
    (round_at_most binary64 false (num p * den b) (num b * den p) next_down_one (mul-pos (num_positive b t) (den_pos p))
    next_down_value.0 next_down_value.1
    (rw (next_down_parts.0, next_down_parts.1) (omega (arith, fraction_below p b F G c d less))))

pub below_one_le : (q : Float) → AtMost false next_down_one q → T (le q next_down_one)
below_one_le q h = at_most_le next_down_one q next_down_value.1 next_down_parts.2 h

-- ---- VALUES FROM 2 ^ -j TO 1 - 2 ^ -j
pub record Inner (j : ℕ) (q : Float) : Type 0 where
  pub is_finite_lem : T (finite q)
  pub sign : is_sign_minus q ≡ false
  pub least : den q ≤ num q * 2 ^ j
  pub most : num q * 2 ^ j + den q ≤ den q * 2 ^ j

pub at_most_inner : (q : Float) → AtMost false next_down_one q → den q ≤ num q * 2 ^ 53 → Inner 53 q
at_most_inner q h l = record { is_finite_lem = h.is_finite_lem; sign = h.sign; least = l; most = go (num q) (den q) h.bound }
  where
    go : (n d : ℕ) → n * den next_down_one ≤ num next_down_one * d → n * 2 ^ 53 + d ≤ d * 2 ^ 53
    go n d h = let g : n * 9007199254740992 ≤ 9007199254740991 * d = rw (next_down_parts.0, next_down_parts.1) at h in omega arith

pub one_parts : (num one ≡ 1) × (den one ≡ 1) × (is_sign_minus one ≡ false) × T (finite one)
unfolding of_bits
one_parts = (refl, refl, refl, tt)

-- 1 less such a value is such a value too: where j is 53 at most, both ends are values of the format
module _ (j : ℕ) (J : j ≤ 53) (q : Float) (h : Inner j q) where
  abbrev p : ℕ
  p = 2 ^ j

  abbrev k : ℕ
  k = 2 ^ j - 1

  abbrev rest : ℕ
  rest = den q - num q

  p_is : k + 1 ≡ p
  p_is = omega (arith, pow_pos j)

  not_over : num q ≤ den q
  not_over = le_of_mul-le-mul_right (omega (arith, h.most)) (pow_pos j)

  parts : (n d e p k : ℕ) → n + e ≡ d → k + 1 ≡ p → d ≤ n * p → n * p + d ≤ d * p → (e * p ≤ k * d) × (1 * d ≤ e * p)
  parts n d e p k s t l m =
      let s' : (n + e) * p ≡ d * p = ap (λ (z : ℕ). z * p) s in
      let t' : d * (k + 1) ≡ d * p = ap (λ (z : ℕ). d * z) t in
      (omega arith, omega arith)

  rest_is : one ⊖ q ≡ round binary64 false rest (den q)
  unfolding sum
  rest_is =
      difference_is binary64 one q one_parts.3 h.is_finite_lem
      ∙ rw (one_parts.0, one_parts.1, one_parts.2, h.sign, one-mul (den q), mul-one (num q), le-ltb (den q) (num q) not_over) refl

  pub complement : Inner j (one ⊖ q)
  complement =
      let (above, under) = parts (num q) (den q) rest p k (omega (arith, not_over)) p_is h.least h.most in
      let few : k < 2 ^ 53 = omega (arith, pow_mono J, pow_pos j) in
      let J' : j ≤ 1074 = omega arith in
      let u = round_upper false rest (den q) k p (den_pos q) (pow_pos j) (grain_held k j few J') above in
      let l = round_lower false rest (den q) 1 p (den_pos q) (pow_pos j) (grain_held 1 j (lit≤ tt) J') u.0 under in
      subst (Inner j) (sym rest_is)
      (record { is_finite_lem = u.0; sign = u.1; least = first _ _ p l; most = second _ _ p k p_is u.2 })
    where
      first : (n d p : ℕ) → 1 * d ≤ n * p → d ≤ n * p
      first n d p h = omega arith

      second : (n d p k : ℕ) → k + 1 ≡ p → n * p ≤ k * d → n * p + d ≤ d * p
      second n d p k e h = let e' : d * (k + 1) ≡ d * p = ap (λ (z : ℕ). d * z) e in omega arith

-- such a value is neither 0 or below nor 1 or above
pub zero_parts : (num plus_zero ≡ 0) × (den plus_zero ≡ 1) × (is_sign_minus plus_zero ≡ false) × T (finite plus_zero)
unfolding of_bits
zero_parts = (refl, refl, refl, tt)

module _ {j : ℕ} (q : Float) (h : Inner j q) where
  pub inner_above : le q plus_zero ≡ false
  inner_above = refuted (le q plus_zero) (λ t.
      let c : num q * 1 ≤ 0 * den q =
      rw (zero_parts.0, zero_parts.1) at (le_cross q plus_zero h.is_finite_lem zero_parts.3 h.sign zero_parts.2 t) in
      let z : num q * 1 * 2 ^ j ≤ 0 * den q * 2 ^ j = mul-le-mul_right (2 ^ j) c in
      omega (arith, h.least, den_pos q))

  pub inner_below : le one q ≡ false
  inner_below = refuted (le one q) (λ t.
      let c : 1 * den q ≤ num q * 1 = rw (one_parts.0, one_parts.1) at (le_cross one q one_parts.3 h.is_finite_lem one_parts.2 h.sign t) in
      let z : 1 * den q * 2 ^ j ≤ num q * 1 * 2 ^ j = mul-le-mul_right (2 ^ j) c in
      omega (arith, h.most, den_pos q))
