-- What `decompose_bits`, `series`, `ln` and `ln_1p` give: a difference of whole numbers, NaN, and the logarithm on each path of the code. Assumes nothing.
use Rattle.std.proofs.Common.{◌≡◌, ℕ, suc, ◌+◌, ◌-◌, ◌*◌, ◌/◌, ◌%◌, ◌^◌, ◌<◌, ◌≤◌, Bool, true, false, not, ◌||◌, T, ◌⊎◌, pos, sym, refl, ap, ◌∙◌, subst, inl, inr, true≢false, le_trans, le_of_eq, zero-lt-suc, mul_assoc, mul_comm, mul-le-mul, mul-pos, one-mul, mul-one, arith, lt→ltb, pow_pos, ltb-false, le-ltb, lt-ltb, le-leb}
use mathlib.Core.Bool.{false≢true}
use borrow.Author.Tests.{lt-leb}
use denote.Floats.{passes}
use lib.Ieee.{Float, nan, inf, fin, binary64, up, down, minus, round, sum, add, sub, mul, of_int, fits, is_nan, lt, eq, le, ne, to_bits, of_bits}
use lib.Ieee.Fits.{down_pos, add-fits}
use lib.Ieee.Bits.{of_bits-to_bits}
use lib.Ieee.Order.{round_mono}
use lib.Ieee.Scale.{finite}
use lib.Ieee.Positive.{num, den, den_pos, positive, positive-finite, first_pos, above_of_le, between, le→cross}
use Rattle.arithmetic.proofs.Methods.{nan_of}
use Rattle.arithmetic.specs.Operations.{◌⊕◌, ◌⊖◌, ◌⊗◌, ◌⊘◌, bits, plus_zero, half, one, two, min_positive, infinity}
use Rattle.arithmetic.specs.Exp.{ln2_hi as H, ln2_lo as L}
use Rattle.arithmetic.specs.Ln.{G1, G2, G3, G4, G5, G6, G7, series, ln, from_least, to_most, ln1p}
use Rattle.arithmetic.specs.Internal.Ln.{significand_of_bits, exponent_of_bits}
use Rattle.arithmetic.specs.Laws.Numbers.{lt_or_le, false_not}
use Rattle.arithmetic.specs.Laws.Signs.{is_nan_lem}
use Rattle.arithmetic.specs.Laws.Times.{cross, has_sign, has_finite}
use Rattle.arithmetic.specs.Laws.Compare.{above_zero, not_le, finite_no_nan}
use Rattle.arithmetic.specs.Laws.Logarithm.{DecomposedBy, raised, normal_bits, subnormal_bits, raised_positive, decomposed_normal, decomposed_subnormal}
use Rattle.arithmetic.specs.Laws.LnBounds.{ln_at}
use Rattle.arithmetic.specs.Laws.Sums.{sum_same, difference_is}
use Rattle.arithmetic.proofs.Integers.{integer_value}

nan_pattern : bits 0x7ff8_0000_0000_0000 ≡ nan
unfolding of_bits
nan_pattern = refl

-- ---- the difference of two whole numbers is exact
whole_difference : (n c : ℕ) → sum binary64 false n true c 1 ≡ of_int binary64 (minus n c)
unfolding sum of_int
whole_difference n c = go (lt_or_le n c)
  where
    go : (n < c) ⊎ (c ≤ n) → sum binary64 false n true c 1 ≡ of_int binary64 (minus n c)
    go (inl h) = let e : c - n ≡ suc (c - suc n) = omega arith in rw (lt-ltb n c h, lt-leb c n h, e)
    go (inr h) = rw (le-ltb n c h, le-leb c n h)

pub sub_whole : (n c : ℕ) → n ≤ 2 ^ 53 → c ≤ 2 ^ 53 → of_int binary64 (pos n) ⊖ of_int binary64 (pos c) ≡ of_int binary64 (minus n c)
unfolding sub
sub_whole n c N C =
    let x = of_int binary64 (pos n) in
    let y = of_int binary64 (pos c) in
    let v = integer_value n N in
    let w = integer_value c C in
    let A : num x * den y * 1 ≡ n * (den x * den y) = over (num x) (den x) (den y) n (cross x false n 1 v) in
    let B : num y * den x * 1 ≡ c * (den x * den y) =
    over (num y) (den y) (den x) c (cross y false c 1 w) ∙ ap (λ (z : ℕ). c * z) (mul_comm (den y) (den x)) in
    difference_is binary64 x y (has_finite x false n 1 v) (has_finite y false c 1 w)
    ∙ rw (has_sign x false n 1 v, has_sign y false c 1 w)
    (sum_same binary64 false true n c 1 (num x * den y) (num y * den x) (den x * den y) (zero-lt-suc 0) (mul-pos (den_pos x) (den_pos y)) A B
    ∙ whole_difference n c)
  where
    over : (a d l k : ℕ) → a * 1 ≡ k * d → a * l * 1 ≡ k * (d * l)
    over a d l k e = mul-one (a * l) ∙ ap (λ (z : ℕ). z * l) (sym (mul-one a) ∙ e) ∙ mul_assoc k d l

-- ---- `series` where a part of it is NaN: it is NaN too
sum_nan : (x : Float) → x ⊕ nan ≡ nan
unfolding add
sum_nan nan = refl
sum_nan (inf s) = refl
sum_nan (fin s m e) = refl

product_nan : (x : Float) → x ⊗ nan ≡ nan
unfolding mul
product_nan nan = refl
product_nan (inf s) = refl
product_nan (fin s m e) = refl

absorbed : (s g o e kl f h : Float) → o ≡ nan → o ≡ s ⊗ (g ⊕ (o ⊕ e)) ⊕ kl ⊖ g ⊕ f ⊕ h
unfolding add sub
absorbed s g o e kl f h n = rw (n, sum_nan g, product_nan s)

-- the terms with G1, G3, G5 and G7
abbrev pub odd_terms : Float → Float
odd_terms f = let s = f ⊘ (two ⊕ f) in let z = s ⊗ s in let w = z ⊗ z in z ⊗ (G1 ⊕ w ⊗ (G3 ⊕ w ⊗ (G5 ⊕ w ⊗ G7)))

series_of_nan : (f k kl : Float) → odd_terms f ≡ nan → odd_terms f ≡ series f k kl
unfolding series
series_of_nan f k kl n =
    let s = f ⊘ (two ⊕ f) in
    let w = s ⊗ s ⊗ (s ⊗ s) in
    absorbed s (half ⊗ f ⊗ f) (odd_terms f) (w ⊗ (G2 ⊕ w ⊗ (G4 ⊕ w ⊗ G6))) kl f (k ⊗ H) n

pub series_nan : (f k kl : Float) → ne (odd_terms f) (odd_terms f) ≡ true → odd_terms f ≡ series f k kl
series_nan f k kl n = series_of_nan f k kl (is_nan_lem (odd_terms f) n)

pub series_is_nan : (f k kl : Float) → true ≡ is_nan (odd_terms f) → odd_terms f ≡ series f k kl
series_is_nan f k kl n = series_of_nan f k kl (nan_of (odd_terms f) n)

-- ---- `ln`, by its tests
zero_times : plus_zero ≡ plus_zero ⊗ L
unfolding of_bits mul
zero_times = refl

pub positive_no_nan : (x : Float) → T (positive x) → T (not (is_nan x))
positive_no_nan x p = false_not (is_nan x) (finite_no_nan x (positive-finite x p))

-- x is m * 2 ^ k, by its pattern where it is normal, and else by that of x times 2 ^ 52
abbrev pub NormalParts : Float → Type 0
NormalParts x = T (positive x) × DecomposedBy x (to_bits binary64 x + 0x340000000000000)

abbrev pub SubnormalParts : Float → Type 0
SubnormalParts x =
    T (positive x) × T (positive (raised x)) × DecomposedBy x (to_bits binary64 (raised x)) × (4503599627370496 ≤ to_bits binary64 (raised x))

parts_of : (x : Float) → T (positive x) → T (fits binary64 x) → T (le min_positive x) → NormalParts x
parts_of x p f h = (p, decomposed_normal x p f (normal_bits x p f h))

is_normal : (x : Float) → le min_positive x ≡ true → lt x infinity ≡ true → T (positive x)
unfolding of_bits lt le
is_normal nan h l = absurd (false≢true h)
is_normal (inf true) h l = absurd (false≢true h)
is_normal (inf false) h l = absurd (false≢true l)
is_normal (fin true m e) h l = absurd (above_of_le min_positive (fin true m e) tt (passes _ h))
is_normal (fin false m e) h l = above_of_le min_positive (fin false m e) tt (passes _ h)

pub normal_parts : (x : Float) → T (fits binary64 x) → le min_positive x ≡ true → lt x infinity ≡ true → NormalParts x
normal_parts x f h l = parts_of x (is_normal x h l) f (passes _ h)

is_subnormal : (x : Float) → le min_positive x ≡ false → lt plus_zero x ≡ true → T (positive x)
unfolding of_bits lt le
is_subnormal nan h l = absurd (false≢true l)
is_subnormal (inf true) h l = absurd (false≢true l)
is_subnormal (inf false) h l = absurd (true≢false h)
is_subnormal (fin s m e) h l = above_zero (fin s m e) tt l

pub subnormal_parts : (x : Float) → T (fits binary64 x) → le min_positive x ≡ false → lt plus_zero x ≡ true → SubnormalParts x
subnormal_parts x f h l =
    let p = is_subnormal x h l in
    let low = subnormal_bits x p f h in
    let (parts, least) = decomposed_subnormal x p f low in
    (p, raised_positive x p f low, parts, least)

pub ln_parts : (x : Float) (b : ℕ) (r : Float) → T (positive x) → DecomposedBy x b
    → r ≡ series (significand_of_bits b ⊖ one) (exponent_of_bits b) (exponent_of_bits b ⊗ L) → r ≡ ln x
ln_parts x b r p e h = h ∙ rw (e.m_is, e.k_is) (sym (ln_at x p))

-- from the least m to below its double m is x itself, and k is 0
module _ (x : Float) (F : T (fits binary64 x)) (lo : 0x3fe6a09e00000000 ≤ to_bits binary64 x) (hi : to_bits binary64 x < 0x3ff6a09e00000000) where
  abbrev raised_bits : ℕ
  raised_bits = to_bits binary64 x + 0x340000000000000

  same_significand : significand_of_bits raised_bits ≡ x
  same_significand = ap (of_bits binary64) (go (to_bits binary64 x) lo hi) ∙ of_bits-to_bits binary64 x F
    where
      go : (b : ℕ) → 4604544269498187776 ≤ b → b < 4609047869125558272
          → (b + 234187180623265792 - 1865450325540864) % 4503599627370496 + 4604544269498187776 ≡ b
      go b l h = omega arith

  no_exponent : exponent_of_bits raised_bits ≡ plus_zero
  unfolding of_int of_bits
  no_exponent = rw (go (to_bits binary64 x) lo hi) refl
    where
      go : (b : ℕ) → 4604544269498187776 ≤ b → b < 4609047869125558272 → (b + 234187180623265792 - 1865450325540864) / 4503599627370496 ≡ 1074
      go b l h = omega arith

  pub ln_near_one : (r : Float) → NormalParts x → r ≡ series (x ⊖ one) plus_zero plus_zero → r ≡ ln x
  ln_near_one r p h = ln_parts x raised_bits r p.0 p.1 (h ∙ rw (same_significand, no_exponent, ← zero_times) refl)

pub ln_infinity : (x : Float) → le min_positive x ≡ true → lt x infinity ≡ false → x ≡ ln x
unfolding ln of_bits lt le
ln_infinity nan h l = absurd (false≢true h)
ln_infinity (inf true) h l = absurd (false≢true h)
ln_infinity (inf false) h l = refl
ln_infinity (fin s m e) h l = absurd (true≢false l)

pub ln_zero : (x : Float) → eq x plus_zero ≡ true → bits 0xfff0000000000000 ≡ ln x
unfolding ln of_bits
ln_zero x e = rw e

-- neither above zero nor zero
below_zero : (x : Float) (b : Bool) → lt x plus_zero ≡ b → T (finite x) → lt plus_zero x ≡ false → eq x plus_zero ≡ false → b ≡ true
unfolding of_bits le
below_zero x true l p a z = refl
below_zero x false l p a z = absurd (true≢false (sym (not_le x plus_zero p tt (rw (l, z) refl)) ∙ a))

below_or_nan : (x : Float) → lt plus_zero x ≡ false → eq x plus_zero ≡ false → (is_nan x || lt x plus_zero) ≡ true
unfolding is_nan lt of_bits
below_or_nan nan a z = refl
below_or_nan (inf true) a z = refl
below_or_nan (inf false) a z = absurd (true≢false a)
below_or_nan (fin s m e) a z = below_zero (fin s m e) _ refl tt a z

pub ln_below : (x : Float) → lt plus_zero x ≡ false → eq x plus_zero ≡ false → bits 0x7ff8_0000_0000_0000 ≡ ln x
unfolding ln
ln_below x a z = nan_pattern ∙ rw (z, below_or_nan x a z)

-- ---- `ln1p`, by its tests: from -0.25 to 1.5, and below 0.40625, where the series is taken at u itself
abbrev upper_limit : Float
upper_limit = bits 0x3ff8000000000000

abbrev direct_limit : Float
direct_limit = bits 0x3fda000000000000

zero_product : plus_zero ≡ plus_zero ⊗ L ⊕ plus_zero
unfolding of_bits mul add
zero_product = refl

pub ln1p_low : (u : Float) → from_least u ≡ true → to_most u ≡ true → lt u direct_limit ≡ true → series u plus_zero plus_zero ≡ ln1p u
unfolding ln1p
ln1p_low u a b c = ap (series u plus_zero) zero_product ∙ rw (a, b, c)

pub ln1p_high : (u m k r : Float) (b : ℕ) → from_least u ≡ true → to_most u ≡ true → lt u direct_limit ≡ false
    → DecomposedBy (one ⊕ u) b → (m ≡ significand_of_bits b) × (k ≡ exponent_of_bits b)
    → r ≡ series (m ⊖ one) k (k ⊗ L ⊕ (u ⊖ (one ⊕ u ⊖ one)) ⊘ (one ⊕ u)) → r ≡ ln1p u
unfolding ln1p
ln1p_high u m k r b f t l d e h = h ∙ rw (e.0 ∙ d.m_is, e.1 ∙ d.k_is, f, t, l)

pub ln1p_over : (u : Float) → from_least u ≡ true → to_most u ≡ false → bits 0x7ff8_0000_0000_0000 ≡ ln1p u
unfolding ln1p
ln1p_over u a b = nan_pattern ∙ rw (a, b)

pub ln1p_under : (u : Float) → from_least u ≡ false → bits 0x7ff8_0000_0000_0000 ≡ ln1p u
unfolding ln1p
ln1p_under u a = nan_pattern ∙ rw a

-- from 0.40625, which is 13 / 2 ^ 5, to 1.5, which is 3 / 2, u is above zero, and 1 + u is normal and 5 / 2 at most
in_range : (u : Float) → to_most u ≡ true → lt u direct_limit ≡ false → T (positive u)
unfolding of_bits lt le
in_range nan b l = absurd (false≢true b)
in_range (inf true) b l = absurd (true≢false l)
in_range (inf false) b l = absurd (false≢true b)
in_range (fin true m e) b l = absurd (true≢false (sym (lt-ltb 0 (m * up e * 32 + 13 * down e) (omega (arith, down_pos e))) ∙ l))
in_range (fin false m e) b l =
    lt→ltb 0 m (first_pos m (up e) (first_pos (m * up e) 32 (omega (arith, down_pos e, ltb-false (m * up e * 32) (13 * down e) l))))

sum_is : (u : Float) → T (positive u) → one ⊕ u ≡ round binary64 false (den u + num u) (den u)
unfolding of_bits add sum
sum_is nan p = absurd p
sum_is (inf s) p = absurd p
sum_is (fin true m e) p = absurd p
sum_is (fin false m e) p = rw (one-mul (down e), mul-one (m * up e))

sum_positive : (u : Float) → to_most u ≡ true → lt u direct_limit ≡ false → T (positive (one ⊕ u)) × T (le min_positive (one ⊕ u))
unfolding of_bits round
sum_positive u b l =
    let p = in_range u b l in
    let n = num u in
    let d = den u in
    let h : n * 2 ≤ 3 * d = le→cross u upper_limit p tt (passes _ b) in
    let more : d ≤ d + n = omega arith in
    let low = round_mono binary64 1 (2 ^ 1022) (d + n) d (pow_pos 1022) (den_pos u) (le_trans (le_of_eq (mul_comm 1 d)) (mul-le-mul more (pow_pos 1022))) in
    subst (λ (y : Float). T (positive y) × T (le min_positive y)) (sym (sum_is u p)) (
      between min_positive (round binary64 false (d + n) d) (round binary64 false 5 2) tt tt low
          (round_mono binary64 (d + n) d 5 2 (den_pos u) (zero-lt-suc 1) (omega arith)),
      low,
    )

pub sum_parts : (u : Float) → to_most u ≡ true → lt u direct_limit ≡ false → NormalParts (one ⊕ u)
sum_parts u b l = let s = sum_positive u b l in parts_of (one ⊕ u) s.0 (add-fits binary64 one u) s.1
