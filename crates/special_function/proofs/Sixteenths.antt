-- For `smoothened_exponential_of_negative_square`: y cut to a multiple of 1/16 by a sum with 3 * 2 ^ 47, where a test of what is left shows that it is the
-- definition's. 6755399441055744 is 3 * 2 ^ 51, the sum in sixteenths. Assumes nothing.
use mathlib.Core.Path.{◌≡◌, refl, sym, ap, ◌∙◌, subst}
use mathlib.Core.Bool.{not, true, false, ◌&&◌, false≢true}
use mathlib.Core.Logic.{inl, inr}
use Prim.Native.Nat.{ℕ, ◌+◌, ◌-◌, ◌*◌, ◌/◌, ◌%◌, ◌≤◌, ◌<◌}
use native.Mathlib.Nat.{le-div_iff_mul-le, div-lt_iff_lt-mul, mul-pos, mul_assoc, mul-one, lt_of_mul-lt-mul_right}
use native.Mathlib.Omega.{arith}
use borrow.Author.Tests.{ltb-true}
use lib.IntN.{ℤ, negsuc}
use lib.Dec.{T, lit≤, lit<}
use lib.Pow.{pow_pos}
use lib.Ieee.{Float, nan, inf, fin, binary64, up, down, round, neg, lt, le, fits, is_nan, of_bits, to_bits}
use lib.Ieee.Exact.{HasValue}
use lib.Ieee.Bits.{is_true}
use lib.Ieee.Fits.{and_l, and_r, add-fits}
use lib.Ieee.Order.{transfer}
use lib.Ieee.Scale.{finite}
use lib.Ieee.Nearest.{div_same}
use lib.Ieee.Positive.{num, den, den_pos}
use Rattle.arithmetic.specs.Operations.{◌⊕◌, ◌⊖◌, ◌⊗◌, bits}
use Rattle.arithmetic.specs.Basic.{is_sign_minus, trunc}
use Rattle.arithmetic.specs.Exp.{exp}
use Rattle.arithmetic.specs.Laws.Numbers.{lt_or_le, false_not}
use Rattle.arithmetic.specs.Laws.Times.{Times, cross, has_finite, has_sign, of_cross, rescale}
use Rattle.arithmetic.specs.Laws.Representable.{whole, round_self}
use Rattle.arithmetic.specs.Laws.Rounding.{round_times}
use Rattle.arithmetic.specs.Laws.Compare.{lt_is}
use Rattle.arithmetic.specs.Laws.Sums.{add_is, difference_is, sub_values, less_smaller}
use Rattle.arithmetic.specs.Laws.Bounds.{le_cross}
use Rattle.arithmetic.specs.Laws.Sizes.{grain, grain_held, round_upper, round_lower, sum_alike, short}
use Rattle.arithmetic.specs.Laws.ShiftedSums.{Shifted, round_shifted, shifted_bits, shifted_no_nan}
use Rattle.arithmetic.specs.Laws.PowersOfTwo.{times_fraction}
use Rattle.arithmetic.specs.Laws.ExpBounds.{trunc_is, whole_times}
use Rattle.special_function.specs.ErrorFunction.{threshold, smoothened_exponential_of_negative_square}
use Rattle.special_function.specs.Internal.PowerTable.{sixteenths, power_at}

-- the literals of the code, and of the definition
abbrev sixteen : Float
sixteen = bits 0x4030_0000_0000_0000

abbrev table_end : Float
table_end = bits 0x4006_0000_0000_0000  -- 2.75

abbrev thirty_second : Float
thirty_second = bits 0x3FA0_0000_0000_0000

abbrev sixteenth : Float
sixteenth = bits 0x3FB0_0000_0000_0000

abbrev shift : Float
shift = bits 0x42F8_0000_0000_0000  -- 3 * 2 ^ 47

abbrev pub shifted : Float → Float
shifted y = y ⊖ thirty_second ⊕ shift

abbrev pub cut : Float → Float
cut y = shifted y ⊖ shift

-- ---- y lies between 15/32 and 11/4
between : (y : Float) (m n : ℕ) (g h : ℤ) → lt (fin false m g) y ≡ true → lt y (fin false n h) ≡ true
    → T (finite y) × (is_sign_minus y ≡ false) × (m * up g * den y < num y * down g) × (num y * down h < n * up h * den y)
unfolding lt
between nan m n g h lo hi = absurd (false≢true lo)
between (inf true) m n g h lo hi = absurd (false≢true lo)
between (inf false) m n g h lo hi = absurd (false≢true hi)
between (fin true k e) m n g h lo hi = absurd (false≢true lo)
between (fin false k e) m n g h lo hi = (tt, refl, ltb-true _ _ lo, ltb-true _ _ hi)

pub record InTable (y : Float) : Type 0 where
  is_finite_lem : T (finite y)
  sign : is_sign_minus y ≡ false
  above : 15 * den y < num y * 32
  below : num y * 4 < 11 * den y

pub in_table : (y : Float) → T (lt threshold y && lt y table_end) → InTable y
unfolding of_bits
in_table y h =
    let lo = lt threshold y in
    let hi = lt y table_end in
    let b = between y 15 11 (negsuc 4) (negsuc 1) (is_true lo (and_l lo hi h)) (is_true hi (and_r lo hi h)) in
    record { is_finite_lem = b.0; sign = b.1; above = b.2; below = b.3 }

-- ---- the sum: y less 1/32 lies from 7/16 to 87/32, so j is 7 to 44
less_half : (y : Float) → InTable y → y ⊖ thirty_second ≡ round binary64 false (num y * 32 - 1 * den y) (den y * 32)
unfolding of_bits
less_half y b =
    difference_is binary64 y (fin false 1 (negsuc 4)) b.is_finite_lem tt
    ∙ rw b.sign (less_smaller binary64 (num y * 32) (1 * den y) (den y * 32) (omega (arith, b.above)))

plus_shift : (u : Float) → T (finite u) → is_sign_minus u ≡ false
    → u ⊕ shift ≡ round binary64 false (num u * 1 + 422212465065984 * den u) (den u * 1)
unfolding of_bits
plus_shift u p s = add_is binary64 u shift p tt ∙ rw s (sum_alike false (num u * 1) (422212465065984 * den u) (den u * 1))

sixteen_value : HasValue sixteen false 16 1
unfolding of_bits
sixteen_value = (refl, refl)

sixteenth_value : HasValue sixteenth false 1 16
unfolding of_bits
sixteenth_value = (refl, refl)

shift_value : HasValue shift false 6755399441055744 16
unfolding of_bits
shift_value = (refl, refl)

module _ (y : Float) (F : T (fits binary64 y)) (b : InTable y) where
  abbrev n : ℕ
  n = num y

  abbrev d : ℕ
  d = den y

  sum_shifted : Shifted 4 7 44 (shifted y)
  sum_shifted =
      let a = n * 32 - 1 * d in
      let r = round binary64 false a (d * 32) in
      let D : 0 < d * 32 = mul-pos (den_pos y) (pow_pos 5) in
      let top = round_upper false a (d * 32) 87 32 D (pow_pos 5) (grain_held 87 5 (short (lit≤ tt)) (lit≤ tt)) (omega (arith, b.below)) in
      let bottom = round_lower false a (d * 32) 7 16 D (pow_pos 4) (grain_held 7 4 (short (lit≤ tt)) (lit≤ tt)) top.0 (omega (arith, b.above)) in
      subst (Shifted 4 7 44) (sym (ap (λ (u : Float). u ⊕ shift) (less_half y b) ∙ plus_shift r top.0 top.1))
      (round_shifted 4 7 44 (num r * 1 + 422212465065984 * den r) (den r * 1) (mul-pos (den_pos r) (pow_pos 0)) (lit≤ tt) (lit≤ tt) (lit< tt)
      (omega (arith, bottom)) (omega (arith, top.2)))

  abbrev j : ℕ
  j = sum_shifted.j

  pub no_nan : T (not (is_nan (shifted y)))
  no_nan = false_not (is_nan (shifted y)) (shifted_no_nan 1070 4 7 44 refl (lit< tt) (shifted y) (add-fits binary64 _ _) sum_shifted)

  index_is : to_bits binary64 (shifted y) % 64 ≡ j
  index_is =
      ap (λ (p : ℕ). p % 64) (shifted_bits 1070 4 7 44 refl (lit< tt) (shifted y) (add-fits binary64 _ _) sum_shifted) ∙ last j sum_shifted.most
    where
      last : (j : ℕ) → j ≤ 44 → (1070 * 4503599627370496 + (6755399441055744 + j)) % 64 ≡ j
      last j h = omega arith

  cut_is : cut y ≡ sixteenths j
  cut_is =
      sub_values binary64 (shifted y) shift false false (6755399441055744 + j) 6755399441055744 16 (pow_pos 4) sum_shifted.value shift_value
      ∙ less_smaller binary64 (6755399441055744 + j) 6755399441055744 16 (omega arith)
      ∙ ap (λ (k : ℕ). round binary64 false k 16) (left j)
    where
      left : (j : ℕ) → 6755399441055744 + j - 6755399441055744 ≡ j
      left j = omega arith

  j_value : HasValue (sixteenths j) false j 16
  j_value = grain false j 4 (short (omega (arith, sum_shifted.most))) (lit≤ tt)

  -- ---- what is left is not negative and below 1/16, so j is the whole part of 16 y
  j_below : T (le (cut y) y) → j * d ≤ n * 16
  j_below h =
      let k = sixteenths j in
      transfer j n 16 d (num k) n (den k) d (den_pos k) (den_pos y) (sym (cross k false j 16 j_value)) refl
      (le_cross k y (has_finite k false j 16 j_value) b.is_finite_lem (has_sign k false j 16 j_value) b.sign
      (subst (λ (z : Float). T (le z y)) cut_is h))

  rest_is : j * d ≤ n * 16 → y ⊖ cut y ≡ round binary64 false (n * 16 - j * d) (d * 16)
  rest_is h =
      ap (λ (z : Float). y ⊖ z) cut_is
      ∙ sub_values binary64 y (sixteenths j) false false (n * 16) (j * d) (d * 16) (mul-pos (den_pos y) (pow_pos 4))
      (of_cross y false (n * 16) (d * 16) b.is_finite_lem b.sign (over n d))
      (rescale (sixteenths j) false j 16 (j * d) (d * 16) (pow_pos 4) (mul_assoc j d 16) j_value)
      ∙ less_smaller binary64 (n * 16) (j * d) (d * 16) h
    where
      over : (n d : ℕ) → n * (d * 16) ≡ n * 16 * d
      over n d = omega arith

  j_above : j * d ≤ n * 16 → lt (y ⊖ cut y) sixteenth ≡ true → n * 16 < (j + 1) * d
  unfolding of_bits
  j_above l h = elim (lt_or_le (n * 16) ((j + 1) * d)) [
    | inl g ↦ g
    | inr g ↦
        let m = n * 16 - j * d in
        let r = round binary64 false m (d * 16) in
        let D : 0 < d * 16 = mul-pos (den_pos y) (pow_pos 4) in
        let top = round_upper false m (d * 16) 44 16 D (pow_pos 4) (grain_held 44 4 (short (lit≤ tt)) (lit≤ tt)) (omega (arith, b.below)) in
        let least : 1 * den r ≤ num r * 16 =
        round_lower false m (d * 16) 1 16 D (pow_pos 4) (grain_held 1 4 (short (lit≤ tt)) (lit≤ tt)) top.0 (omega (arith, g)) in
        let small : num r * 16 < 1 * den r =
        ltb-true _ _ (sym (lt_is r (fin false 1 (negsuc 3)) top.0 tt ∙ rw top.1) ∙ rw (rest_is l) at h) in
        absurd (omega (arith, least, small))
  ]

  -- ---- the definition's multiple of 1/16: 16 y is exact
  sixteen_times : T (finite (y ⊗ sixteen)) × (is_sign_minus (y ⊗ sixteen) ≡ false) × (num (y ⊗ sixteen) * d ≡ n * 16 * den (y ⊗ sixteen))
  sixteen_times =
      let D : 0 < d * 1 = mul-pos (den_pos y) (pow_pos 0) in
      let r = round binary64 false (n * 16) (d * 1) in
      let top = round_upper false (n * 16) (d * 1) 44 1 D (pow_pos 0) (grain_held 44 0 (short (lit≤ tt)) (lit≤ tt)) (omega (arith, b.below)) in
      let exact : Times 4 (round binary64 false n d) r =
      round_times binary64 false 4 n d (n * 16) (d * 1) (den_pos y) D (over n d) (inr (whole binary64 y F b.is_finite_lem)) top.0 in
      let same : round binary64 false n d ≡ y =
      round_self binary64 y false n d (den_pos y) F (of_cross y false n d b.is_finite_lem b.sign refl) in
      let is : y ⊗ sixteen ≡ r = times_fraction y sixteen 16 1 b.is_finite_lem (lit≤ tt) (lit≤ tt) sixteen_value ∙ rw b.sign in
      subst (λ (w : Float). T (finite w) × (is_sign_minus w ≡ false) × (num w * d ≡ n * 16 * den w)) (sym is)
      (top.0, top.1, subst (λ (z : Float). num r * den z ≡ num z * 16 * den r) same exact.value)
    where
      over : (n d : ℕ) → n * 16 * d ≡ n * (16 * (d * 1))
      over n d = omega arith

  tilde_is : j * d ≤ n * 16 → n * 16 < (j + 1) * d → trunc (y ⊗ sixteen) ⊗ sixteenth ≡ sixteenths j
  tilde_is l h =
      let w = y ⊗ sixteen in
      let x = sixteen_times in
      let part : num w / den w ≡ j =
      div_same (num w) (den w) (n * 16) d (den_pos w) (den_pos y) x.2
      ∙ omega (arith, (div-lt_iff_lt-mul (den_pos y)).1 h, (le-div_iff_mul-le (den_pos y)).1 l) in
      ap (λ (k : Float). k ⊗ sixteenth) (trunc_is w x.0 ∙ rw (x.1, part))
      ∙ whole_times false j (omega (arith, sum_shifted.most)) sixteenth 1 16 (lit≤ tt) (lit≤ tt) sixteenth_value
      ∙ ap (λ (k : ℕ). round binary64 false k 16) (mul-one j)

  -- ---- so the table has the first exponential
  module _ (h : T (le (cut y) y && lt (y ⊖ cut y) sixteenth)) where
    low : j * d ≤ n * 16
    low = j_below (and_l (le (cut y) y) (lt (y ⊖ cut y) sixteenth) h)

    high : n * 16 < (j + 1) * d
    high = let below = lt (y ⊖ cut y) sixteenth in j_above low (is_true below (and_r (le (cut y) y) below h))

    pub index_range : (7 ≤ to_bits binary64 (shifted y) % 64) × (to_bits binary64 (shifted y) % 64 < 44)
    index_range = rw index_is (sum_shifted.least, lt_of_mul-lt-mul_right d (few j n d low b.below))
      where
        few : (j n d : ℕ) → j * d ≤ n * 16 → n * 4 < 11 * d → j * d < 44 * d
        few j n d l h = omega arith

    pub by_table : power_at (to_bits binary64 (shifted y) % 64) ⊗ exp (neg (y ⊖ cut y) ⊗ (y ⊕ cut y)) ≡ smoothened_exponential_of_negative_square y
    unfolding power_at smoothened_exponential_of_negative_square
    by_table = rw (index_is, cut_is, tilde_is low high)
