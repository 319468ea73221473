-- What `fast` of `exp` gives, for an x in the fast range of which `is_clear_of_tie` holds: the k of the definition, by a sum with 3 * 2 ^ 51 + 1023.
-- 6755399441055744 is 3 * 2 ^ 51, 4503599627370496 is 2 ^ 52. Assumes nothing.
use Rattle.std.proofs.Common.{◌≡◌, ℕ, zero, suc, ◌+◌, ◌-◌, ◌*◌, ◌/◌, ◌%◌, ◌^◌, ◌<◌, ◌≤◌, Bool, true, false, cond, not, ◌&&◌, T, eqb, ltb, leb, ◌⊎◌, ℤ, pos, negsuc, sym, refl, ap, ◌∙◌, subst, inl, inr, le_trans, le_of_eq, lt_of_lt_of_le, le_of_lt, mul-le-mul_right, div-lt_iff_lt-mul, le_antisymm, mul-pos, lt_of_not-le, le-div_iff_mul-le, mul-one, mul_right_comm, not-le_of_lt, le_of_mul-le-mul_right, arith, lit<, lit≤, lt→ltb, pow_pos, ltb-true, le-ltb, lt-ltb}
use native.Mathlib.Nat.{min-eq_left}
use mathlib.Core.Bool.{false≢true}
use denote.Floats.{passes}
use lib.Ieee.{Float, nan, inf, fin, binary64, up, down, minus, round, sum, neg, lt, fits, is_nan, of_bits, to_bits, nan_bits}
use lib.Ieee.Bits.{is_true}
use lib.Ieee.Fits.{and_i, and_l, and_r, eq→eqb, round-fits, add-fits}
use lib.Ieee.Back.{round_whole}
use lib.Ieee.Exact.{HasValue}
use lib.Ieee.Scale.{finite}
use lib.Ieee.Positive.{num, den, den_pos, through}
use Rattle.arithmetic.specs.Operations.{◌⊕◌, ◌⊖◌, ◌⊗◌}
use Rattle.arithmetic.specs.Basic.{is_sign_minus}
use Rattle.arithmetic.specs.Internal.WholePart.{whole_part}
use Rattle.arithmetic.specs.Exp.{inv_ln2, o_threshold, u_threshold, half_away, reduced, scale_b, exp}
use Rattle.arithmetic.specs.Internal.Exp.{fast_limit, in_fast_range, shift, shifted, max_rest, rest, clear_of_tie}
use Rattle.arithmetic.specs.Laws.Numbers.{lt_or_le, false_not}
use Rattle.arithmetic.specs.Laws.Choices.{in_both}
use Rattle.arithmetic.specs.Laws.Times.{cross, has_finite, of_cross, rescale}
use Rattle.arithmetic.specs.Laws.Patterns.{bits_no_nan}
use Rattle.arithmetic.specs.Laws.ShiftedSums.{Shifted, round_shifted, shifted_bits, shifted_no_nan}
use Rattle.arithmetic.specs.Laws.Sums.{add_is, sub_values}
use Rattle.arithmetic.specs.Laws.Compare.{finite_no_nan}
use Rattle.arithmetic.specs.Laws.Bounds.{AtMost, round_at_most, round_at_least}
use Rattle.arithmetic.specs.Laws.Sizes.{apart_by, sum_size}
use Rattle.arithmetic.specs.Laws.PowersOfTwo.{times_power}
use Rattle.arithmetic.proofs.Trunc.{whole_part_is}
use Rattle.arithmetic.proofs.ExpGeneral.{product_at_most, half_away_round, biased_exponent, scaled, exp_is}
use Rattle.arithmetic.proofs.ExpPower.{power_at_lem}
use Rattle.arithmetic.proofs.ExpZeroSign.{scaled_by_zero}

-- ---- the fast range, between -708 and 708, lies between the thresholds
-- between -v and v, for a v = n * 2 ^ g
pub between_limits : (x : Float) (n : ℕ) (g : ℤ) → lt x (fin false n g) ≡ true → lt (fin true n g) x ≡ true → T (finite x) × (num x * down g < n * up g * den x)
unfolding lt
between_limits nan n g h l = absurd (false≢true h)
between_limits (inf true) n g h l = absurd (false≢true l)
between_limits (inf false) n g h l = absurd (false≢true h)
between_limits (fin true m e) n g h l = (tt, ltb-true _ _ l)
between_limits (fin false m e) n g h l = (tt, ltb-true _ _ h)

within_range : (x : Float) → lt x fast_limit ≡ true → lt (neg fast_limit) x ≡ true → T (finite x) × (num x * 1 ≤ 708 * den x)
unfolding neg of_bits
within_range x h l = let b = between_limits x 177 (pos 2) h l in (b.0, le_of_lt b.1)

pub between_thresholds : (x : Float) → T (finite x) → num x * 1 ≤ 708 * den x → (lt o_threshold x ≡ false) × (lt x u_threshold ≡ false)
unfolding lt of_bits
between_thresholds nan p h = absurd p
between_thresholds (inf s) p h = absurd p
between_thresholds (fin true m e) p h = (refl, le-ltb _ _ (through (m * up e) 708 (num u_threshold) (down e) 1 (den u_threshold) (lit< tt) h (lit≤ tt)))
between_thresholds (fin false m e) p h = (le-ltb _ _ (through (m * up e) 708 (num o_threshold) (down e) 1 (den o_threshold) (lit< tt) h (lit≤ tt)), refl)

-- ---- x / ln 2 is at most 1022 in size
bound_fits : T (fits binary64 (fin false 511 (pos 1)))
unfolding fits
bound_fits = tt

bound_times : num fast_limit * num inv_ln2 * 1 ≤ 1022 * (den fast_limit * den inv_ln2)
unfolding of_bits
bound_times = lit≤ tt

is_708 : (num fast_limit ≡ 708) × (den fast_limit ≡ 1)
unfolding of_bits
is_708 = (refl, refl)

quotient_at_most : (x : Float) → T (finite x) → num x * 1 ≤ 708 * den x → AtMost (is_sign_minus x) (fin false 511 (pos 1)) (x ⊗ inv_ln2)
quotient_at_most x p h = product_at_most x fast_limit (fin false 511 (pos 1)) p (rw (is_708.0, is_708.1) h) bound_fits tt bound_times

-- ---- the sum with `shift`, 3 * 2 ^ 51 + 1023, is 3 * 2 ^ 51 + j for a whole j
shift_is : shift ≡ fin false 6755399441056767 (pos 0)
unfolding of_bits
shift_is = refl

-- n / d of size 1022 at most, and the sum a / d with it
sum_between : (s : Bool) (n d : ℕ) → 0 < d → n * 1 ≤ 1022 * d
    → (a : ℕ)
    × (sum binary64 s (n * 1) false (6755399441056767 * d) (d * 1) ≡ round binary64 false a (d * 1))
    × (6755399441055745 * d ≤ a)
    × (a ≤ 6755399441057789 * d)
unfolding sum
sum_between false n d D h = (n * 1 + 6755399441056767 * d, refl, omega arith, omega arith)
sum_between true n d D h = (
  6755399441056767 * d - n * 1,
  rw (lt-ltb (n * 1) (6755399441056767 * d) (omega arith)) refl,
  omega arith,
  omega arith,
)

sum_is_shifted : (v : Float) → T (finite v) → num v * 1 ≤ 1022 * den v → Shifted 0 1 2045 (v ⊕ shift)
sum_is_shifted v p h =
    let d = den v in
    let b = sum_between (is_sign_minus v) (num v) d (den_pos v) h in
    subst (Shifted 0 1 2045)
    (sym (ap (λ (z : Float). v ⊕ z) shift_is ∙ add_is binary64 v (fin false 6755399441056767 (pos 0)) p tt ∙ b.1))
    (round_shifted 0 1 2045 b.0 (d * 1) (mul-pos (den_pos v) (lit≤ tt)) (lit≤ tt) (lit≤ tt) (lit< tt)
    (lower b.0 d b.2) (upper b.0 d b.3))
  where
    upper : (a d : ℕ) → a ≤ 6755399441057789 * d → a * 1 ≤ 6755399441057789 * (d * 1)
    upper a d h = omega arith

    lower : (a d : ℕ) → 6755399441055745 * d ≤ a → 6755399441055745 * (d * 1) ≤ a * 1
    lower a d h = omega arith

-- ---- less `shift` it is k, j - 1023 with its sign
abbrev k_sign : ℕ → Bool
k_sign j = ltb j 1023

abbrev k_size : ℕ → ℕ
k_size j = cond (ltb j 1023) (1023 - j) (j - 1023)

difference : (j : ℕ) → sum binary64 false (6755399441055744 + j) true 6755399441056767 1 ≡ round binary64 (k_sign j) (k_size j) 1
unfolding sum
difference j = go (lt_or_le j 1023)
  where
    go : (j < 1023) ⊎ (1023 ≤ j) → sum binary64 false (6755399441055744 + j) true 6755399441056767 1 ≡ round binary64 (k_sign j) (k_size j) 1
    go (inl h) =
        let e : 6755399441056767 - (6755399441055744 + j) ≡ 1023 - j = omega arith in
        rw (lt-ltb (6755399441055744 + j) 6755399441056767 (omega arith), lt-ltb j 1023 h, e) refl
    go (inr h) =
        let e : 6755399441055744 + j - 6755399441056767 ≡ j - 1023 = omega arith in
        rw (le-ltb (6755399441055744 + j) 6755399441056767 (omega arith), le-ltb j 1023 h, e) refl

shift_value : HasValue shift false 6755399441056767 1
unfolding of_bits
shift_value = (refl, refl)

k_is : (t : Float) (S : Shifted 0 1 2045 t) → t ⊖ shift ≡ round binary64 (k_sign S.j) (k_size S.j) 1
k_is t S = sub_values binary64 t shift false false (6755399441055744 + S.j) 6755399441056767 1 (pow_pos 0) S.value shift_value ∙ difference S.j

-- ---- x / ln 2 less k is below `max_rest`, 1 / 2 - 2 ^ -16, in size
max_rest_fits : T (fits binary64 (fin false 32767 (negsuc 15)))
unfolding fits
max_rest_fits = tt

within_rest : (d : Float) → lt d max_rest ≡ true → lt (neg max_rest) d ≡ true → T (finite d) × (num d * 65536 < 32767 * den d)
unfolding neg of_bits
within_rest d h l = between_limits d 32767 (negsuc 15) h l

-- v less the whole number n of the sign u
less_whole : (v k : Float) (u : Bool) (n : ℕ) → T (finite v) → HasValue k u n 1
    → v ⊖ k ≡ sum binary64 (is_sign_minus v) (num v) (not u) (n * den v) (den v)
less_whole v k u n p K =
    sub_values binary64 v k (is_sign_minus v) u (num v) (n * den v) (den v) (den_pos v) (of_cross v (is_sign_minus v) (num v) (den v) p refl refl)
    (rescale k u n 1 (n * den v) (den v) (pow_pos 0) (mul-one (n * den v)) K)

rest_small : (v k : Float) (u : Bool) (n : ℕ) → T (finite v) → HasValue k u n 1 → lt (v ⊖ k) max_rest ≡ true → lt (neg max_rest) (v ⊖ k) ≡ true
    → apart_by (is_sign_minus v) (not u) (num v) (n * den v) * 65536 < 32767 * den v
rest_small v k u n p K h l =
    let m = apart_by (is_sign_minus v) (not u) (num v) (n * den v) in
    let z = sum_size (is_sign_minus v) (not u) (num v) (n * den v) (den v) in
    let r = round binary64 z.0 m (den v) in
    let is : v ⊖ k ≡ r = less_whole v k u n p K ∙ z.1 in
    let b : T (finite r) × (num r * 65536 < 32767 * den r) =
    subst (λ (d : Float). T (finite d) × (num d * 65536 < 32767 * den d)) is (within_rest (v ⊖ k) h l) in
    lt_of_not-le (λ (g : 32767 * den v ≤ m * 65536).
    not-le_of_lt b.1 (round_at_least binary64 z.0 m (den v) (fin false 32767 (negsuc 15)) (den_pos v) max_rest_fits tt b.0 g))

-- so n is the nearest whole number, and has the sign of v or is 0
agree : (s u : Bool) (n a d : ℕ) → 0 < d → apart_by s (not u) a (n * d) * 65536 < 32767 * d
    → ((n ≡ 0) ⊎ (u ≡ s)) × ((a - n * d + (n * d - a)) * 65536 < 32767 * d)
agree true true n a d D h = (inr refl, h)
agree false false n a d D h = (inr refl, h)
agree true false zero a d D h = (inl refl, omega arith)
agree true false (suc n) a d D h = absurd (omega arith)
agree false true zero a d D h = (inl refl, omega arith)
agree false true (suc n) a d D h = absurd (omega arith)

-- ---- n is the whole part of a / d and a half
ceiling_fits : (n : ℕ) → n < 1024 → T (fits binary64 (fin false (suc (n * 65536 + 65534)) (negsuc 15)))
unfolding fits
ceiling_fits n h =
    let m = suc (n * 65536 + 65534) in
    and_i (eqb (m % 2) 1 && ltb m (2 ^ 53) && leb (2 ^ 16) (2 ^ 1074)) (ltb (m * 1) (2 ^ 1024 * 2 ^ 16))
    (and_i (eqb (m % 2) 1 && ltb m (2 ^ 53)) true (and_i (eqb (m % 2) 1) (ltb m (2 ^ 53)) (eq→eqb (is_odd n)) (lt→ltb m (2 ^ 53) (omega arith))) tt)
    (lt→ltb (m * 1) (2 ^ 1024 * 2 ^ 16) (lt_of_lt_of_le few (lit≤ tt)))
  where
    is_odd : (n : ℕ) → suc (n * 65536 + 65534) % 2 ≡ 1
    is_odd n = omega arith

    few : suc (n * 65536 + 65534) * 1 < 2 ^ 53
    few = omega arith

pub floor_is : (s : Bool) (n a d : ℕ) → 0 < d → n < 1024 → (a - n * d + (n * d - a)) * 65536 < 32767 * d
    → n ≡ whole_part (round binary64 s (a * 2 + 1 * 1 * d) (d * 2))
floor_is s n a d D few h =
    let b = a * 2 + 1 * 1 * d in
    let c = d * 2 in
    let C : 0 < c = mul-pos D (lit≤ tt) in
    let w = round binary64 s b c in
    let z = fin false (suc (n * 65536 + 65534)) (negsuc 15) in
    let k = round binary64 false n 1 in
    let K : HasValue k false n 1 = round_whole binary64 false n (omega (arith, few)) in
    let top : AtMost s z w = round_at_most binary64 s b c z C (ceiling_fits n few) tt (upper n (n * d) a d refl h) in
    let K-cross : num k * 1 ≡ n * den k = cross k false n 1 K in
    let bottom : num k * den w ≤ num w * den k =
    round_at_least binary64 s b c k C (round-fits binary64 false n 1) (has_finite k false n 1 K) top.is_finite_lem
    (over (num k) (den k) K-cross (lower n (n * d) a d refl h)) in
    let lo : n * den w ≤ num w = le_of_mul-le-mul_right (le_trans (le_of_eq (under (num k) (den k) (den w) K-cross)) bottom) (den_pos k) in
    let hi : num w < (n + 1) * den w = below (num w) (den w) (den_pos w) top.bound in
    let is : n ≡ num w / den w = le_antisymm ((le-div_iff_mul-le (den_pos w)).1 lo) (le_of_lt_suc ((div-lt_iff_lt-mul (den_pos w)).1 hi)) in
    is ∙ sym (whole_part_is w top.is_finite_lem ∙ min-eq_left (subst (λ (q : ℕ). q ≤ 2 ^ 52) is (omega (arith, few))))
  where
    upper : (n p a d : ℕ) → p ≡ n * d → (a - p + (p - a)) * 65536 < 32767 * d
        → (a * 2 + 1 * 1 * d) * 65536 ≤ suc (n * 65536 + 65534) * 1 * (d * 2)
    upper n p a d e h = omega arith

    lower : (n p a d : ℕ) → p ≡ n * d → (a - p + (p - a)) * 65536 < 32767 * d → n * (d * 2) ≤ a * 2 + 1 * 1 * d
    lower n p a d e h = omega arith

    over : (u l : ℕ) → u * 1 ≡ n * l → n * (d * 2) ≤ a * 2 + 1 * 1 * d → u * (d * 2) ≤ (a * 2 + 1 * 1 * d) * l
    over u l e h =
        le_trans (le_of_eq (ap (λ (x : ℕ). x * (d * 2)) (sym (mul-one u) ∙ e) ∙ mul_right_comm n l (d * 2))) (mul-le-mul_right l h)

    under : (u l q : ℕ) → u * 1 ≡ n * l → n * q * l ≡ u * q
    under u l q e = mul_right_comm n q l ∙ ap (λ (x : ℕ). x * q) (sym e ∙ mul-one u)

    below : (u l : ℕ) → 0 < l → u * 65536 ≤ suc (n * 65536 + 65534) * 1 * l → u < (n + 1) * l
    below u l L h = omega arith

    le_of_lt_suc : {a k : ℕ} → a < k + 1 → a ≤ k
    le_of_lt_suc h = omega arith

-- ---- k by its sign and its size: its biased exponent, and a k of 0 of either sign
biased_exponent_is : (j : ℕ) → 0 < j → biased_exponent (k_sign j) (k_size j) ≡ 52 + j
biased_exponent_is j p = go (lt_or_le j 1023)
  where
    go : (j < 1023) ⊎ (1023 ≤ j) → biased_exponent (k_sign j) (k_size j) ≡ 52 + j
    go (inl h) = rw (lt-ltb j 1023 h) (omega arith)
    go (inr h) = rw (le-ltb j 1023 h) (omega arith)

k_small : (j : ℕ) → j ≤ 2045 → k_size j < 1024
k_small j h = in_both (λ (n : ℕ). n < 1024) (ltb j 1023) (omega arith) (omega arith)

either_sign : (x : Float) → T (fits binary64 x) → T (finite x) → (s u : Bool) (n : ℕ) → (n ≡ 0) ⊎ (u ≡ s)
    → scaled x u n ≡ scaled x s n
either_sign x F p s u n (inr e) = ap (λ (v : Bool). scaled x v n) e
either_sign x F p s u n (inl e) = rw e (scaled_by_zero x F p u ∙ sym (scaled_by_zero x F p s))

-- ---- so the result is that of `exp`
module _ (x : Float) (F : T (fits binary64 x)) (h : T (in_fast_range x)) where
  abbrev v : Float
  v = x ⊗ inv_ln2

  in_range : T (finite x) × (num x * 1 ≤ 708 * den x)
  in_range =
      let under = lt x fast_limit in
      let over = lt (neg fast_limit) x in
      within_range x (is_true under (and_l under over h)) (is_true over (and_r under over h))

  at_most : AtMost (is_sign_minus x) (fin false 511 (pos 1)) v
  at_most = quotient_at_most x in_range.0 in_range.1

  sum_shifted : Shifted 0 1 2045 (shifted x)
  sum_shifted = sum_is_shifted v at_most.is_finite_lem at_most.bound

  abbrev pattern : ℕ
  pattern = to_bits binary64 (shifted x)

  pattern_is : pattern ≡ 0x4338_0000_0000_0000 + sum_shifted.j
  pattern_is =
      shifted_bits 1074 0 1 2045 refl (lit< tt) (shifted x) (add-fits binary64 v shift) sum_shifted ∙ apart sum_shifted.j
    where
      apart : (j : ℕ) → 1074 * 4503599627370496 + (6755399441055744 + j) ≡ 4843621399236968448 + j
      apart j = omega arith

  pub sum_no_nan : T (not (is_nan (shifted x)))
  sum_no_nan =
      false_not (is_nan (shifted x)) (shifted_no_nan 1074 0 1 2045 refl (lit< tt) (shifted x) (add-fits binary64 v shift) sum_shifted)

  pub pattern_ge : 0x4338_0000_0000_0000 ≤ pattern
  pattern_ge = omega (arith, pattern_is)

  pub pattern_lt : (pattern - 0x4338_0000_0000_0000) * 4503599627370496 < 2 ^ 64
  pattern_lt = omega (arith, pattern_is, sum_shifted.most)

  pub power_no_nan : T (not (nan_bits binary64 ((pattern - 0x4338_0000_0000_0000) * 4503599627370496)))
  power_no_nan = bits_no_nan ((pattern - 0x4338_0000_0000_0000) * 4503599627370496) (go pattern sum_shifted.j pattern_is sum_shifted.most)
    where
      go : (b j : ℕ) → b ≡ 4843621399236968448 + j → j ≤ 2045
          → (b - 4843621399236968448) * 4503599627370496 % 9223372036854775808 ≤ 9218868437227405312
      go b j e h = omega arith

  pub fast_is : T (clear_of_tie x) → (y : Float) → y ≡ reduced x (shifted x ⊖ shift)
      → y ⊗ of_bits binary64 ((pattern - 0x4338_0000_0000_0000) * 4503599627370496) ≡ exp x
  fast_is g y e =
      let S = sum_shifted in
      let j = S.j in
      let k = shifted x ⊖ shift in
      let n = k_size j in
      let u = k_sign j in
      let s = is_sign_minus x in
      let k_round : k ≡ round binary64 u n 1 = k_is (shifted x) S in
      let few : n < 1024 = k_small j S.most in
      let K : HasValue k u n 1 = subst (λ (z : Float). HasValue z u n 1) (sym k_round) (round_whole binary64 u n (omega (arith, few))) in
      let below = lt (rest x) max_rest in
      let above = lt (neg max_rest) (rest x) in
      let small = rest_small v k u n at_most.is_finite_lem K (is_true below (and_l below above g)) (is_true above (and_r below above g)) in
      let a = agree (is_sign_minus v) u n (num v) (den v) (den_pos v) small in
      let sign : (n ≡ 0) ⊎ (u ≡ s) = subst (λ (b : Bool). (n ≡ 0) ⊎ (u ≡ b)) at_most.sign a.0 in
      let part : n ≡ whole_part (half_away s x) =
      floor_is s n (num v) (den v) (den_pos v) few a.1 ∙ ap whole_part (sym (half_away_round s x at_most.is_finite_lem at_most.sign)) in
      let between = between_thresholds x in_range.0 in_range.1 in
      ap (λ (b : ℕ). y ⊗ of_bits binary64 (b * 4503599627370496)) (ap (λ (b : ℕ). b - 4843621399236968448) pattern_is ∙ less j)
      ∙ times_power y (of_bits binary64 (j * 4503599627370496)) (52 + j) (power_at_lem j S.least (omega (arith, S.most)))
      ∙ ap (λ (q : ℕ). scale_b y (minus q 1075)) (sym (biased_exponent_is j S.least))
      ∙ ap (λ (z : Float). scale_b z (minus (biased_exponent u n) 1075)) (e ∙ ap (reduced x) k_round)
      ∙ either_sign x F in_range.0 s u n sign
      ∙ exp_is x (finite_no_nan x in_range.0) between.0 between.1 s (half_away s x) n refl refl part
    where
      less : (j : ℕ) → 4843621399236968448 + j - 4843621399236968448 ≡ j
      less j = omega arith

-- ---- the tests, as the code has them
pub passed : {r b : Bool} → r ≡ true → r ≡ b → T b
passed p e = passes _ (sym e ∙ p)

pub both_true : (a b : Bool) → (a && b) ≡ true → (a ≡ true) × (b ≡ true)
both_true true true h = (refl, refl)
both_true true false h = absurd (false≢true h)
both_true false b h = absurd (false≢true h)
