-- What `general` of `exp` gives on each path: how large k can be, k as a float and as a whole number, and the result. Assumes nothing.
use Rattle.std.proofs.Common.{◌≡◌, ℕ, zero, suc, ◌+◌, ◌-◌, ◌*◌, ◌/◌, ◌<◌, ◌≤◌, Bool, true, false, cond, T, pos, negsuc, sym, refl, ap, ◌∙◌, subst, true≢false, le_trans, le_of_eq, lt_of_le_of_lt, mul-le-mul_right, div-lt_iff_lt-mul, mul-pos, arith, lit≤, ltb-false, le-leb}
use native.Mathlib.Nat.{mul-mul-mul_comm, min-eq_left}
use borrow.Author.Tests.{lt-leb}
use lib.Ieee.{up, down, Float, nan, inf, fin, binary64, minus, round, sum, lt, fits, is_nan, of_bits, to_signed}
use lib.Ieee.Back.{positive_back, negative_back}
use lib.Ieee.Exact.{HasValue}
use lib.Ieee.Scale.{finite}
use lib.Ieee.Positive.{num, den, den_pos, through}
use Rattle.arithmetic.proofs.Methods.{nan_of}
use Rattle.arithmetic.specs.Operations.{◌⊗◌, plus_zero, infinity}
use Rattle.arithmetic.specs.Basic.{is_sign_minus, trunc}
use Rattle.arithmetic.specs.Exp.{inv_ln2, o_threshold, u_threshold, half_away, reduced, scale_b, exp}
use Rattle.arithmetic.specs.Internal.WholePart.{whole_part}
use Rattle.arithmetic.specs.Laws.Sums.{add_is}
use Rattle.arithmetic.specs.Laws.Bounds.{AtMost, round_at_most}
use Rattle.arithmetic.specs.Laws.Sizes.{sum_alike}
use Rattle.arithmetic.specs.Laws.PowersOfTwo.{times_fraction}
use Rattle.arithmetic.specs.Laws.ExpBounds.{half_away_is, trunc_is}
use Rattle.arithmetic.proofs.Trunc.{whole_part_is}
use Rattle.arithmetic.proofs.Integers.{of_int_pos, of_int_negsuc, integer_fits, negative_fits}

-- ---- between the thresholds x is finite, and its size is at most that of the threshold on its side
between_finite : (x : Float) → is_nan x ≡ false → lt o_threshold x ≡ false → lt x u_threshold ≡ false → T (finite x)
unfolding is_nan lt of_bits
between_finite nan n h l = absurd (true≢false n)
between_finite (inf true) n h l = absurd (true≢false l)
between_finite (inf false) n h l = absurd (true≢false h)
between_finite (fin s m e) n h l = tt

abbrev threshold : Bool → Float
threshold s = cond s u_threshold o_threshold

within_threshold : (x : Float) → T (finite x) → lt o_threshold x ≡ false → lt x u_threshold ≡ false
    → num x * den (threshold (is_sign_minus x)) ≤ num (threshold (is_sign_minus x)) * den x
unfolding lt of_bits
within_threshold nan p h l = absurd p
within_threshold (inf s) p h l = absurd p
within_threshold (fin true m e) p h l = ltb-false (num u_threshold * down e) (m * up e * den u_threshold) l
within_threshold (fin false m e) p h l = ltb-false (num o_threshold * down e) (m * up e * den o_threshold) h

-- ---- so |k| is at most 1024 above zero, and 1075 below
abbrev pub most : Bool → ℕ
most s = cond s 1075 1024

-- bounds of x / ln 2, `most` and a quarter, and of that and a half, `most` and three quarters
abbrev quotient_bound : Bool → Float
quotient_bound s = fin false (4 * most s + 1) (negsuc 1)

abbrev half_away_bound : Bool → Float
half_away_bound s = fin false (4 * most s + 3) (negsuc 1)

both_fit : (s : Bool) → T (fits binary64 (quotient_bound s)) × T (fits binary64 (half_away_bound s))
unfolding fits
both_fit true = (tt, tt)
both_fit false = (tt, tt)

threshold_times : (s : Bool) → num (threshold s) * num inv_ln2 * den (quotient_bound s) ≤ num (quotient_bound s) * (den (threshold s) * den inv_ln2)
unfolding of_bits
threshold_times true = lit≤ tt
threshold_times false = lit≤ tt

inv_ln2_value : HasValue inv_ln2 false (num inv_ln2) (den inv_ln2) × (0 < num inv_ln2)
unfolding of_bits
inv_ln2_value = ((refl, refl), lit≤ tt)

-- w, x / ln 2 and a half, has the sign s, and its whole part is at most `most s`
pub record Bounded (s : Bool) (w : Float) : Type 0 where
  pub is_finite_lem : T (finite w)
  pub sign : is_sign_minus w ≡ s
  pub size : num w / den w ≤ most s

-- the product by 1 / ln 2 of what is at most `bound` in size
pub product_at_most : (x bound r : Float) → T (finite x) → num x * den bound ≤ num bound * den x → T (fits binary64 r) → T (finite r)
    → num bound * num inv_ln2 * den r ≤ num r * (den bound * den inv_ln2) → AtMost (is_sign_minus x) r (x ⊗ inv_ln2)
product_at_most x bound r p h F q g =
    let product = times_fraction x inv_ln2 (num inv_ln2) (den inv_ln2) p inv_ln2_value.1 (den_pos inv_ln2) inv_ln2_value.0 in
    subst (λ (z : Float). AtMost (is_sign_minus x) r z) (sym product)
    (round_at_most binary64 (is_sign_minus x) (num x * num inv_ln2) (den x * den inv_ln2) r (mul-pos (den_pos x) (den_pos inv_ln2)) F q
    (through (num x * num inv_ln2) (num bound * num inv_ln2) (num r) (den x * den inv_ln2) (den bound * den inv_ln2) (den r)
    (mul-pos (den_pos bound) (den_pos inv_ln2))
    (le_trans (le_of_eq (mul-mul-mul_comm (num x) (num inv_ln2) (den bound) (den inv_ln2)))
    (le_trans (mul-le-mul_right (num inv_ln2 * den inv_ln2) h) (le_of_eq (mul-mul-mul_comm (num bound) (den x) (num inv_ln2) (den inv_ln2)))))
    g))

-- and a half away from zero
pub half_away_round : (s : Bool) (x : Float) → T (finite (x ⊗ inv_ln2)) → is_sign_minus (x ⊗ inv_ln2) ≡ s
    → let w = x ⊗ inv_ln2 in half_away s x ≡ round binary64 s (num w * 2 + 1 * 1 * den w) (den w * 2)
half_away_round s x p e =
    let w = x ⊗ inv_ln2 in
    half_away_is s x
    ∙ add_is binary64 w (fin s 1 (negsuc 0)) p tt
    ∙ ap (λ (t : Bool). sum binary64 t (num w * 2) s (1 * 1 * den w) (den w * 2)) e
    ∙ sum_alike s (num w * 2) (1 * 1 * den w) (den w * 2)

module _ (x : Float) (p : T (finite x)) (h : num x * den (threshold (is_sign_minus x)) ≤ num (threshold (is_sign_minus x)) * den x) where
  abbrev s : Bool
  s = is_sign_minus x

  half_away_at_most : AtMost s (half_away_bound s) (half_away s x)
  half_away_at_most =
      let w = x ⊗ inv_ln2 in
      let b : AtMost s (quotient_bound s) w = product_at_most x (threshold s) (quotient_bound s) p h (both_fit s).0 tt (threshold_times s) in
      subst (λ (z : Float). AtMost s (half_away_bound s) z) (sym (half_away_round s x b.is_finite_lem b.sign))
      (round_at_most binary64 s (num w * 2 + 1 * 1 * den w) (den w * 2) (half_away_bound s) (mul-pos (den_pos w) (lit≤ tt)) (both_fit s).1 tt
      (half_more (most s) (num w) (den w) b.bound))
    where
      half_more : (k n d : ℕ) → n * 4 ≤ (4 * k + 1) * 1 * d → (n * 2 + 1 * 1 * d) * 4 ≤ (4 * k + 3) * 1 * (d * 2)
      half_more k n d h = omega arith

  bounded_at : Bounded s (half_away s x)
  bounded_at =
      let w = half_away s x in
      let b : AtMost s (half_away_bound s) w = half_away_at_most in
      record {
        is_finite_lem = b.is_finite_lem;
        sign = b.sign;
        size = le_of_lt_suc ((div-lt_iff_lt-mul (den_pos w)).1 (under (most s) (num w) (den w) (den_pos w) b.bound));
      }
    where
      under : (k n d : ℕ) → 0 < d → n * 4 ≤ (4 * k + 3) * 1 * d → n < (k + 1) * d
      under k n d p h = omega arith

      le_of_lt_suc : {a k : ℕ} → a < k + 1 → a ≤ k
      le_of_lt_suc h = omega arith

pub bounded : (x : Float) → is_nan x ≡ false → lt o_threshold x ≡ false → lt x u_threshold ≡ false
    → (s : Bool) (w : Float) → s ≡ is_sign_minus x → w ≡ half_away s x → Bounded s w
bounded x n h l s w e v =
    let p : T (finite x) = between_finite x n h l in
    subst (Bounded s) (sym v) (subst (λ (t : Bool). Bounded t (half_away t x)) (sym e) (bounded_at x p (within_threshold x p h l)))

-- ---- k as a float, and as a whole number
pub most_le : (s : Bool) → most s ≤ 1075
most_le true = lit≤ tt
most_le false = lit≤ tt

whole_part_exact : (s : Bool) (w : Float) → Bounded s w → whole_part w ≡ num w / den w
whole_part_exact s w k = whole_part_is w k.is_finite_lem ∙ min-eq_left (le_trans k.size (le_trans (most_le s) (lit≤ tt)))

pub whole_part_le : (s : Bool) (w : Float) (m : ℕ) → Bounded s w → m ≡ whole_part w → m ≤ most s
whole_part_le s w m k e = le_trans (le_of_eq (e ∙ whole_part_exact s w k)) k.size

abbrev pub biased_exponent : Bool → ℕ → ℕ
biased_exponent s n = cond s (1075 - n) (1075 + n)

-- the result for a k of the sign s and the size n
abbrev pub scaled : Float → Bool → ℕ → Float
scaled x s n = scale_b (reduced x (round binary64 s n 1)) (minus (biased_exponent s n) 1075)

pub biased_exponent_lt : (s : Bool) (n : ℕ) → n ≤ most s → biased_exponent s n < 2100
biased_exponent_lt true n h = omega arith
biased_exponent_lt false n h = omega arith

minus_up : (n : ℕ) → minus (1075 + n) 1075 ≡ pos n
minus_up n =
    ap (λ (b : Bool). cond b (pos (1075 + n - 1075)) (negsuc (1075 - suc (1075 + n)))) (le-leb 1075 (1075 + n) (omega arith)) ∙ ap pos same
  where
    same : 1075 + n - 1075 ≡ n
    same = omega arith

minus_down : (n : ℕ) → suc n ≤ 1075 → minus (1075 - suc n) 1075 ≡ negsuc n
minus_down n h =
    ap (λ (b : Bool). cond b (pos (1075 - suc n - 1075)) (negsuc (1075 - suc (1075 - suc n)))) (lt-leb 1075 (1075 - suc n) (omega arith))
    ∙ ap negsuc same
  where
    same : 1075 - suc (1075 - suc n) ≡ n
    same = omega arith

signed_zero : to_signed 63 (round binary64 true 0 1) ≡ pos 0
unfolding to_signed round
signed_zero = refl

pub whole_number : (s : Bool) (n : ℕ) → n ≤ 1075 → to_signed 63 (round binary64 s n 1) ≡ minus (biased_exponent s n) 1075
whole_number false n h =
    ap (to_signed 63) (sym (of_int_pos n))
    ∙ (positive_back binary64 63 n (integer_fits n (le_trans h (lit≤ tt))) (lt_of_le_of_lt h (lit≤ tt))).1
    ∙ sym (minus_up n)
whole_number true zero h = signed_zero
whole_number true (suc n) h =
    ap (to_signed 63) (sym (of_int_negsuc n))
    ∙ (negative_back binary64 63 n (negative_fits n (le_trans h (lit≤ tt))) (le_trans h (lit≤ tt))).1
    ∙ sym (minus_down n h)

-- ---- `exp` of NaN, above and below the thresholds, and between them
exp_nan : exp nan ≡ nan
unfolding exp is_nan
exp_nan = refl

pub exp_of_nan : (x : Float) → true ≡ is_nan x → x ≡ exp x
exp_of_nan x h = let e = nan_of x h in e ∙ sym (ap exp e ∙ exp_nan)

module _ (x : Float) (n : is_nan x ≡ false) where
  pub exp_over : lt o_threshold x ≡ true → infinity ≡ exp x
  unfolding exp
  exp_over h = rw (n, h) refl

  module _ (h : lt o_threshold x ≡ false) where
    pub exp_under : lt x u_threshold ≡ true → plus_zero ≡ exp x
    unfolding exp
    exp_under l = rw (n, h, l) refl

    pub exp_between : lt x u_threshold ≡ false → let k = trunc (half_away (is_sign_minus x) x) in exp x ≡ scale_b (reduced x k) (to_signed 63 k)
    unfolding exp
    exp_between l = rw (n, h, l) refl

    pub exp_is : (l : lt x u_threshold ≡ false) (s : Bool) (w : Float) (m : ℕ) → s ≡ is_sign_minus x → w ≡ half_away s x → m ≡ whole_part w
        → scaled x s m ≡ exp x
    exp_is l s w m e v p =
        let K : Bounded s w = bounded x n h l s w e v in
        let k = trunc (half_away (is_sign_minus x) x) in
        let k_is : k ≡ round binary64 s m 1 =
        ap (λ (t : Bool). trunc (half_away t x)) (sym e)
        ∙ ap trunc (sym v)
        ∙ trunc_is w K.is_finite_lem
        ∙ ap (λ (t : Bool). round binary64 t (num w / den w) 1) K.sign
        ∙ ap (λ (z : ℕ). round binary64 s z 1) (sym (p ∙ whole_part_exact s w K)) in
        ap (scale_b (reduced x (round binary64 s m 1))) (sym (whole_number s m (le_trans (whole_part_le s w m K p) (most_le s))))
        ∙ ap (λ (z : Float). scale_b (reduced x z) (to_signed 63 z)) (sym k_is)
        ∙ sym (exp_between l)
