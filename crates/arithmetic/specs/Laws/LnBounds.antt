-- `ln` of a finite value above 0, and `ln1p` in its range, are 2 ^ 10 at most in size. Sizes are in 64ths. Assumes nothing.
use Rattle.std.specs.Prelude.{◌≡◌, ℕ, zero, suc, ◌+◌, ◌-◌, ◌*◌, ◌/◌, ◌^◌, ◌<◌, ◌≤◌, true, false, T, ℤ, nat_le, nat_lt, refl, Float}
use Rattle.std.proofs.Common.{sym, ap, ◌∙◌, subst, true≢false, zero-le, le_trans, le_of_eq, mul-one, mul-pos, mul-div_cancel, pow-suc, zero-mul, zero-lt-suc, arith, lt-ltb, le-ltb, ltb-true, leb-true, leb-false, lit≤, pow_pos, pow_mono}
use Rattle.std.specs.Float.{nan, inf, fin, binary64}
use Rattle.std.specs.Float.Ieee.{up, down, minus, size, round, add, mul, neg, of_int, lt, eq, le, fits, of_bits}
use Rattle.std.specs.Float.Ieee.Digits.{size-lt, size-le}
use Rattle.std.specs.Float.Ieee.Bits.{is_true}
use Rattle.std.specs.Float.Ieee.Order.{le_of_values}
use Rattle.std.specs.Float.Ieee.Fits.{add-fits, up_pos, down_pos}
use Rattle.std.specs.Float.Ieee.Scale.{finite}
use Rattle.std.specs.Float.Ieee.Positive.{num, den, den_pos, positive, positive-finite}
use Rattle.arithmetic.specs.Operations.{◌⊕◌, ◌⊖◌, ◌⊗◌, ◌⊘◌, bits, plus_zero, half, one, two}
use Rattle.arithmetic.specs.Basic.{is_sign_minus}
use Rattle.arithmetic.specs.Exp.{ln2_hi, ln2_lo}
use Rattle.arithmetic.specs.Ln.{G1, G2, G3, G4, G5, G6, G7, in_units, place, significand, exponent, series, ln, from_least, to_most, ln1p}
use Rattle.arithmetic.specs.Laws.Choices.{in_both, by_test}
use Rattle.arithmetic.specs.Laws.Times.{of_cross}
use Rattle.arithmetic.specs.Laws.Compare.{finite_no_nan}
use Rattle.arithmetic.specs.Laws.ScaledRatios.{positive_zero}
use Rattle.arithmetic.specs.Laws.Sums.{add_is}
use Rattle.arithmetic.specs.Laws.Representable.{representable}
use Rattle.arithmetic.specs.Laws.Sizes.{short, grain_held, round_upper, apart_by, sum_size, sub_is, Size, size_round, size_mul, size_add, size_sub}
use Rattle.arithmetic.specs.Laws.Sizes.{size_widen, size_div, size_of}
use Rattle.arithmetic.specs.Laws.PowerBounds.{Small, size_small, Between, between_of, between_add_plus}
use Rattle.arithmetic.specs.Laws.ExpBounds.{two_plus}

-- ---- m less 1 is 1 at most in size
place_bound : (a : ℕ) → a * 2 ≤ 3 * 2 ^ place a
unfolding place
place_bound a = by_test (λ (p : ℕ). a * 2 ≤ 3 * 2 ^ p) (nat_lt (a * 2 ^ 20) (741455 * 2 ^ size a))
    (λ e. under (2 ^ size a) (2 ^ (size a - 1)) (ltb-true (a * 2 ^ 20) (741455 * 2 ^ size a) e) (twice (size a)))
    (λ e. over (2 ^ size a) (size-lt a))
  where
    twice : (n : ℕ) → 2 ^ n ≤ 2 ^ (n - 1) * 2
    twice n = le_trans (pow_mono (near n)) (le_of_eq (pow-suc 2 (n - 1)))
      where
        near : (n : ℕ) → n ≤ suc (n - 1)
        near n = omega arith

    under : (p q : ℕ) → a * 2 ^ 20 < 741455 * p → p ≤ q * 2 → a * 2 ≤ 3 * q
    under p q h g = omega arith

    over : (p : ℕ) → a < p → a * 2 ≤ 3 * p
    over p h = omega arith

one_parts : (num (neg one) ≡ 1) × (den (neg one) ≡ 1) × (is_sign_minus (neg one) ≡ true) × T (finite (neg one))
unfolding neg of_bits
one_parts = (refl, refl, refl, tt)

significand_less : (x : Float) → Size 64 (significand x ⊖ one)
unfolding significand
significand_less x =
    let a = in_units x in
    let c = 2 ^ place a in
    let m = round binary64 false a c in
    let (p, s, h) = round_upper false a c 3 2 (pow_pos (place a)) (pow_pos 1) (grain_held 3 1 (lit≤ tt) (lit≤ tt)) (place_bound a) in
    let z = sum_size false true (num m * 1) (1 * den m) (den m * 1) in
    let is : m ⊖ one ≡ round binary64 z.0 (apart_by false true (num m * 1) (1 * den m)) (den m * 1) =
    sub_is m one ∙ add_is binary64 m (neg one) p one_parts.3 ∙ rw (one_parts.0, one_parts.1, one_parts.2, s) z.1 in
    subst (Size 64) (sym is)
    (size_round z.0 (apart_by false true (num m * 1) (1 * den m)) (den m * 1) 64 (mul-pos (den_pos m) (pow_pos 0)) (short (lit≤ tt)) (go (num m) (den m) h))
  where
    go : (n d : ℕ) → n * 2 ≤ 3 * d → (n * 1 - 1 * d + (1 * d - n * 1)) * 64 ≤ 64 * (d * 1)
    go n d h = omega arith

-- ---- k
units_bound : (x : Float) → T (finite x) → T (fits binary64 x) → in_units x < 2 ^ 2098
units_bound x p F =
    let o = representable binary64 x F p in
    subst (λ (z : ℕ). z < 2 ^ 2098)
    (sym (ap (λ (z : ℕ). z / den x) o.exact ∙ mul-div_cancel (o.digits * 2 ^ o.place) (den_pos x))) o.under

place_le : (a : ℕ) → place a ≤ size a
unfolding place
place_le a = in_both (λ (p : ℕ). p ≤ size a) (nat_lt (a * 2 ^ 20) (741455 * 2 ^ size a)) (omega arith) (omega arith)

integer_size : (p : ℕ) → p ≤ 2098 → Size 68736 (of_int binary64 (minus p 1074))
unfolding of_int
integer_size p h = by_test (λ (z : ℤ). Size 68736 (of_int binary64 z)) (nat_le 1074 p)
    (λ e. let l = leb-true 1074 p e in size_round false (p - 1074) 1 68736 (pow_pos 0) (short (lit≤ tt)) (omega arith))
    (λ e. let l = leb-false 1074 p e in size_round true (suc (1074 - suc p)) 1 68736 (pow_pos 0) (short (lit≤ tt)) (omega arith))

exponent_size : (x : Float) → T (finite x) → T (fits binary64 x) → Size 68736 (exponent x)
unfolding exponent
exponent_size x p F =
    let a = in_units x in
    let l : size a ≤ 2098 = size-le a 2098 (units_bound x p F) in
    integer_size (place a) (le_trans (place_le a) l)

-- ---- the series
pub constants : Size 43 G1 × Size 26 G2 × Size 19 G3 × Size 15 G4 × Size 12 G5 × Size 10 G6 × Size 10 G7
    × Size 45 ln2_hi × Size 1 ln2_lo × Size 32 half × Size 64 one
unfolding of_bits
constants = (
  size_of 43 G1 tt,
  size_of 26 G2 tt,
  size_of 19 G3 tt,
  size_of 15 G4 tt,
  size_of 12 G5 tt,
  size_of 10 G6 tt,
  size_of 10 G7 tt,
  size_of 45 ln2_hi tt,
  size_of 1 ln2_lo tt,
  size_of 32 half tt,
  size_of 64 one tt,
)

-- a product with what is 1 at most
shrink : {a : ℕ} {x y : Float} → Size 64 x → Size a y → a ≤ 200000 → Size a (x ⊗ y)
shrink {a} h g l = size_mul a h g (omega arith) (short l)

series_size : (f k kl : Float) → Size 64 f → Size 68736 k → Size 1394 kl → Size 49987 (series f k kl)
unfolding series
series_size f k kl F K L =
    let (g1, g2, g3, g4, g5, g6, g7, hi, lo, h, o) = constants in
    let d = two_plus f F in
    let s : Size 64 _ = size_div _ F (short (lit≤ tt)) d.0 d.1 in
    let z : Size 64 _ = shrink s s (lit≤ tt) in
    let w : Size 64 _ = shrink z z (lit≤ tt) in
    let g : Size 32 _ = size_mul 32 (size_mul 32 h F (lit≤ tt) (short (lit≤ tt))) F (lit≤ tt) (short (lit≤ tt)) in
    let r5 : Size 22 _ = size_add g5 (shrink w g7 (lit≤ tt)) (short (lit≤ tt)) in
    let r3 : Size 41 _ = size_add g3 (shrink w r5 (lit≤ tt)) (short (lit≤ tt)) in
    let r1 : Size 84 _ = size_add g1 (shrink w r3 (lit≤ tt)) (short (lit≤ tt)) in
    let r4 : Size 25 _ = size_add g4 (shrink w g6 (lit≤ tt)) (short (lit≤ tt)) in
    let r2 : Size 51 _ = size_add g2 (shrink w r4 (lit≤ tt)) (short (lit≤ tt)) in
    let r : Size 135 _ = size_add (shrink z r1 (lit≤ tt)) (shrink w r2 (lit≤ tt)) (short (lit≤ tt)) in
    let a : Size 167 _ = shrink s (size_add g r (short (lit≤ tt))) (lit≤ tt) in
    size_add (size_add (size_sub (size_add a L (short (lit≤ tt))) g (short (lit≤ tt))) F (short (lit≤ tt)))
    (size_mul 48330 K hi (lit≤ tt) (short (lit≤ tt))) (short (lit≤ tt))

-- ---- the logarithms
low_product : (k : Float) → Size 68736 k → Size 1074 (k ⊗ ln2_lo)
low_product k K = size_mul 1074 K constants.8 (lit≤ tt) (short (lit≤ tt))

pub positive_tests : (x : Float) → T (positive x) → (eq x plus_zero ≡ false) × (lt x plus_zero ≡ false)
unfolding eq lt of_bits
positive_tests nan p = absurd p
positive_tests (inf s) p = absurd p
positive_tests (fin true m e) p = absurd p
positive_tests (fin false zero e) p = absurd p
positive_tests (fin false (suc m) e) p =
    let some : 0 < suc m * up e * 1 = mul-pos (mul-pos (zero-lt-suc m) (up_pos e)) (pow_pos 0) in (
      rw (zero-mul (down e), positive_zero (suc m * up e * 1) some) refl,
      le-ltb (suc m * up e * 1) (0 * down e) (le_trans (le_of_eq (zero-mul (down e))) zero-le),
    )

pub ln_at : (x : Float) → T (positive x) → ln x ≡ series (significand x ⊖ one) (exponent x) (exponent x ⊗ ln2_lo)
unfolding ln
ln_at x p =
    let t = positive_tests x p in
    rw (t.0, t.1, finite_no_nan x (positive-finite x p), is_true (finite x) (positive-finite x p)) refl

pub ln_small : (x : Float) → T (positive x) → T (fits binary64 x) → Small 10 (ln x)
ln_small x p F =
    let q = positive-finite x p in
    let K = exponent_size x q F in
    subst (Small 10) (sym (ln_at x p))
    (size_small 10
    (series_size (significand x ⊖ one) (exponent x) (exponent x ⊗ ln2_lo) (significand_less x) K (size_widen 1394 (low_product (exponent x) K) (lit≤ tt)))
    (lit≤ tt))

-- its last operation is a sum
series_fits : (f k kl : Float) → T (fits binary64 (series f k kl))
unfolding series
series_fits f k kl =
    let s = f ⊘ (two ⊕ f) in
    let z = s ⊗ s in
    let w = z ⊗ z in
    let g = half ⊗ f ⊗ f in
    let R = z ⊗ (G1 ⊕ w ⊗ (G3 ⊕ w ⊗ (G5 ⊕ w ⊗ G7))) ⊕ w ⊗ (G2 ⊕ w ⊗ (G4 ⊕ w ⊗ G6)) in
    add-fits binary64 (s ⊗ (g ⊕ R) ⊕ kl ⊖ g ⊕ f) (k ⊗ ln2_hi)

pub ln_fits : (x : Float) → T (positive x) → T (fits binary64 (ln x))
ln_fits x p = subst (λ (z : Float). T (fits binary64 z)) (sym (ln_at x p)) (series_fits _ _ _)

one_between : Between 0 0 one
unfolding of_bits
one_between = between_of 0 0 one tt

-- from 0 to 3 / 2
pub record Excess (u : Float) : Type 0 where
  pub is_finite_lem : T (finite u)
  pub sign : is_sign_minus u ≡ false
  pub bound : num u * 2 ≤ 3 * den u

from_least_lem : (u : Float) → Excess u → from_least u ≡ true
unfolding le of_bits
from_least_lem nan h = absurd h.is_finite_lem
from_least_lem (inf s) h = absurd h.is_finite_lem
from_least_lem (fin true m e) h = absurd (true≢false h.sign)
from_least_lem (fin false m e) h =
    let d = down_pos e in
    rw (lt-ltb 0 (1 * down e + m * up e * 4) (omega arith)) refl

to_most_lem : (u : Float) → Excess u → to_most u ≡ true
unfolding of_bits
to_most_lem u h =
    is_true (to_most u)
    (le_of_values u (bits 0x3FF8_0000_0000_0000) (num u) (den u) 3 2 (den_pos u) (pow_pos 1)
    (of_cross u false (num u) (den u) h.is_finite_lem h.sign refl) (refl, refl) h.bound)

zero_sizes : Size 68736 plus_zero × Size 1394 (plus_zero ⊗ ln2_lo ⊕ plus_zero)
unfolding of_bits mul add
zero_sizes = (record { is_finite_lem = tt; bound = lit≤ tt }, record { is_finite_lem = tt; bound = lit≤ tt })

low_size : (u : Float) → Excess u → lt u (bits 0x3FDA_0000_0000_0000) ≡ true → Size 64 u
unfolding lt of_bits
low_size nan h l = absurd h.is_finite_lem
low_size (inf s) h l = absurd h.is_finite_lem
low_size (fin true m e) h l = absurd (true≢false h.sign)
low_size (fin false m e) h l = record { is_finite_lem = tt; bound = go (m * up e) (down e) (ltb-true (m * up e * 32) (13 * down e) l) }
  where
    go : (n d : ℕ) → n * 32 < 13 * d → n * 64 ≤ 64 * d
    go n d h = omega arith

pub ln1p_small : (u : Float) → Excess u → Small 10 (ln1p u)
unfolding ln1p
ln1p_small u h =
    rw (from_least_lem u h, to_most_lem u h)
    (by_test (Small 10) (lt u (bits 0x3FDA_0000_0000_0000))
    (λ l. size_small 10 (series_size u plus_zero (plus_zero ⊗ ln2_lo ⊕ plus_zero) (low_size u h l) zero_sizes.0 zero_sizes.1) (lit≤ tt))
    (λ l.
    let v = one ⊕ u in
    let o = constants.10 in
    let U : Size 96 u = record { is_finite_lem = h.is_finite_lem; bound = wide (num u) (den u) h.bound } in
    let V160 : Size 160 v = size_add o U (short (lit≤ tt)) in
    let B : Between 0 2 v = between_add_plus one_between (record { small = size_small 1 U (lit≤ tt); sign = h.sign }) (lit≤ tt) (lit≤ tt) in
    let K = exponent_size v V160.is_finite_lem (add-fits binary64 one u) in
    let c : Size 320 ((u ⊖ (v ⊖ one)) ⊘ v) =
    size_div v (size_sub U (size_sub V160 o (short (lit≤ tt))) (short (lit≤ tt))) (short (lit≤ tt)) V160.is_finite_lem
    (le_trans B.least (le_of_eq (mul-one (num v)))) in
    size_small 10
    (series_size (significand v ⊖ one) (exponent v) (exponent v ⊗ ln2_lo ⊕ (u ⊖ (v ⊖ one)) ⊘ v) (significand_less v) K
    (size_add (low_product (exponent v) K) c (short (lit≤ tt)))) (lit≤ tt)))
  where
    wide : (n d : ℕ) → n * 2 ≤ 3 * d → n * 64 ≤ 96 * d
    wide n d h = omega arith
