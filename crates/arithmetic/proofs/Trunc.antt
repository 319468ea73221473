-- What `whole_part` and `trunc` give: the whole part of a value by the fields of its bit pattern, and `trunc` by the whole part. 4503599627370496 is
-- 2 ^ 52, 9223372036854775808 is 2 ^ 63, the sign. Assumes nothing.
use Rattle.std.proofs.Common.{◌≡◌, ℕ, zero, suc, ◌+◌, ◌-◌, ◌*◌, ◌/◌, ◌%◌, ◌^◌, ◌<◌, ◌≤◌, min, Bool, true, false, not, T, leb, ◌⊎◌, sym, refl, ap, ◌∙◌, subst, inl, inr, le_trans, le_of_eq, lt_of_lt_of_le, le-add_right, lt_of_le_of_lt, le_of_lt, mod-lt, mod-eq_of_lt, mul_assoc, mul_comm, div-lt_iff_lt-mul, add-mul, mul-le-mul, add_comm, div-add-mod', le-div_iff_mul-le, mul-one, div-mul-le_self, mul-div_cancel, arith, lit<, lit≤, le→leb, leb→le, pow_pos, pow_mono, pow-add, shl_lt, le-leb}
use native.Mathlib.Nat.{min-eq_left, min-eq_right}
use native.Mathlib.Nat.{div-eq_of_lt}
use native.Mathlib.Nat.{mul-div-mul_right, mul-add-div_right}
use lib.Pow.{field as middle}
use lib.Bits.{bit_and, and_mask, mask_lt}
use lib.Ieee.{Float, nan, inf, fin, binary64, up, down, round, fits, is_nan, of_fields, of_bits, to_bits, nan_bits}
use lib.Ieee.Bits.{of_bits-fits, to_bits-lt, nan_bits_is}
use borrow.Author.Tests.{lt-leb}
use lib.Ieee.Exact.{HasValue}
use lib.Ieee.Digits.{back}
use lib.Ieee.Fits.{down_pos}
use lib.Ieee.Scale.{finite}
use lib.Ieee.Positive.{num, den, den_pos}
use lib.Ieee.Nearest.{div_same}
use Rattle.arithmetic.proofs.Methods.{nan_of}
use Rattle.arithmetic.specs.Basic.{trunc}
use Rattle.arithmetic.specs.Internal.WholePart.{whole_part}
use Rattle.arithmetic.specs.Laws.Representable.{representable, round_self}
use Rattle.arithmetic.specs.Laws.Numbers.{lt_or_le, pow_split, same_test, false_not}
use Rattle.arithmetic.specs.Laws.Patterns.{of_bits_is, read_more, bits_no_nan}
use Rattle.arithmetic.specs.Laws.Times.{cross, has_finite, rescale}
use Rattle.arithmetic.specs.Laws.Compare.{finite_no_nan}
use Rattle.arithmetic.specs.Laws.Signs.{sign_bit}
use Rattle.arithmetic.specs.Laws.ShiftedSums.{whole_large}
use Rattle.arithmetic.specs.Laws.ExpBounds.{trunc_is}
use Rattle.arithmetic.proofs.MulAddDecode.{value_subnormal, value_normal}

-- ---- NaN
trunc_nan : trunc nan ≡ nan
unfolding trunc
trunc_nan = refl

pub trunc_of_nan : (x : Float) → true ≡ is_nan x → x ≡ trunc x
trunc_of_nan x h = let e = nan_of x h in e ∙ sym (ap trunc e ∙ trunc_nan)

-- ---- the whole part of a finite value, by its fraction
pub whole_part_is : (w : Float) → T (finite w) → whole_part w ≡ min (num w / den w) (2 ^ 52)
whole_part_is nan h = absurd h
whole_part_is (inf s) h = absurd h
whole_part_is (fin s m e) h = refl

whole_part_of : (x : Float) (s : Bool) (a : ℕ) → HasValue x s a (2 ^ 1074) → whole_part x ≡ min (a / 2 ^ 1074) (2 ^ 52)
whole_part_of x s a h =
    whole_part_is x (has_finite x s a (2 ^ 1074) h)
    ∙ ap (λ (z : ℕ). min z (2 ^ 52)) (div_same (num x) (den x) a (2 ^ 1074) (den_pos x) (pow_pos 1074) (cross x s a (2 ^ 1074) h))

-- ---- the whole part, by the pattern's fields: the exponent's, the fraction's, the sign
abbrev field : Float → ℕ
field x = bit_and (to_bits binary64 x / 2 ^ 52) 0x7ff

abbrev digits : Float → ℕ
digits x = bit_and (to_bits binary64 x) 0xf_ffff_ffff_ffff

abbrev negative : Float → Bool
negative x = leb (2 ^ 63) (to_bits binary64 x)

field_of_infinity : (s : Bool) → field (inf s) ≡ 2047
unfolding to_bits
field_of_infinity true = refl
field_of_infinity false = refl

digits_lt : (t : ℕ) → t < 4503599627370496 → 4503599627370496 + t < 9007199254740992
digits_lt t h = omega arith

-- the whole part of q * 2 ^ j of the smallest values: below 1, with its last p digits below the unit, and from 2 ^ 52 on
part_below_one : (q j : ℕ) → q < 2 ^ 53 → j < 1022 → min (q * 2 ^ j / 2 ^ 1074) (2 ^ 52) ≡ 0
part_below_one q j h b =
    let room : 53 + j ≤ 1074 = omega (arith, b) in
    ap (λ (z : ℕ). min z (2 ^ 52)) (div-eq_of_lt (lt_of_lt_of_le (shl_lt 53 j h) (pow_mono room)))

part_by_shift : (q j p : ℕ) → q < 2 ^ 53 → j + p ≡ 1074 → 0 < p → q / 2 ^ p ≡ min (q * 2 ^ j / 2 ^ 1074) (2 ^ 52)
part_by_shift q j p h e P =
    let room : 53 ≤ 52 + p = omega (arith, P) in
    let whole : q / 2 ^ p ≡ q * 2 ^ j / 2 ^ 1074 =
    sym (mul-div-mul_right q (2 ^ p) (pow_pos j)) ∙ ap (λ (z : ℕ). q * 2 ^ j / z) (mul_comm (2 ^ p) (2 ^ j) ∙ pow_split j p 1074 e) in
    sym (min-eq_left (le_of_lt ((div-lt_iff_lt-mul (pow_pos p)).1 (lt_of_lt_of_le h (le_trans (pow_mono room) (le_of_eq (pow-add 2 52 p)))))))
    ∙ ap (λ (z : ℕ). min z (2 ^ 52)) whole

part_capped : (q j : ℕ) → 2 ^ 52 ≤ q → 1074 ≤ j → 2 ^ 52 ≡ min (q * 2 ^ j / 2 ^ 1074) (2 ^ 52)
part_capped q j h b = sym (min-eq_right ((le-div_iff_mul-le (pow_pos 1074)).1 (mul-le-mul h (pow_mono b))))

by_field : (x : Float) → T (fits binary64 x) → T (not (is_nan x)) → (n f : ℕ) → field x ≡ f
    → (f ≡ 2047 → n ≡ 2 ^ 52)
    → (f ≡ 0 → n ≡ min (digits x * 2 ^ 0 / 2 ^ 1074) (2 ^ 52))
    → ((j : ℕ) → f ≡ suc j → n ≡ min ((2 ^ 52 + digits x) * 2 ^ j / 2 ^ 1074) (2 ^ 52))
    → n ≡ whole_part x
unfolding is_nan
by_field nan F N n f e a b d = absurd N
by_field (inf s) F N n f e a b d = a (sym e ∙ field_of_infinity s)
by_field (fin s m g) F N n zero e a b d =
    let x = fin s m g in
    b refl ∙ sym (whole_part_of x (negative x) (digits x * 2 ^ 0) (value_subnormal x F tt e))
by_field (fin s m g) F N n (suc j) e a b d =
    let x = fin s m g in
    d j refl ∙ sym (whole_part_of x (negative x) ((2 ^ 52 + digits x) * 2 ^ j) (value_normal x F tt j e))

module _ (x : Float) (F : T (fits binary64 x)) (N : T (not (is_nan x))) where
  few : digits x < 2 ^ 52
  few = mask_lt (to_bits binary64 x) 52

  pub whole_below_one : field x < 1023 → 0 ≡ whole_part x
  whole_below_one h =
      by_field x F N 0 (field x) refl (λ e. absurd (omega (arith, h, e)))
      (λ e. sym (part_below_one (digits x) 0 (lt_of_lt_of_le few (lit≤ tt)) (lit< tt)))
      (λ j e. sym (part_below_one (2 ^ 52 + digits x) j (digits_lt (digits x) few) (omega (arith, h, e))))

  pub whole_by_shift : 1012 ≤ field x → field x < 1075 → (digits x + 2 ^ 52) / 2 ^ (1075 - field x) ≡ whole_part x
  whole_by_shift g h =
      ap (λ (z : ℕ). z / 2 ^ (1075 - field x)) (add_comm (digits x) (2 ^ 52))
      ∙ by_field x F N ((2 ^ 52 + digits x) / 2 ^ (1075 - field x)) (field x) refl
      (λ e. absurd (omega (arith, h, e))) (λ e. absurd (omega (arith, g, e)))
      (λ j e. part_by_shift (2 ^ 52 + digits x) j (1075 - field x) (digits_lt (digits x) few) (omega (arith, h, e)) (omega (arith, h)))

  pub whole_capped : 1075 ≤ field x → 2 ^ 52 ≡ whole_part x
  whole_capped h =
      by_field x F N (2 ^ 52) (field x) refl (λ e. refl) (λ e. absurd (omega (arith, h, e)))
      (λ j e. part_capped (2 ^ 52 + digits x) j (le-add_right (2 ^ 52) (digits x)) (omega (arith, h, e)))

-- ---- `trunc`, by the whole part
trunc_inf : (s : Bool) → trunc (inf s) ≡ inf s
unfolding trunc
trunc_inf s = refl

trunc_small : (x : Float) (n : ℕ) → T (fits binary64 x) → T (not (is_nan x)) → n ≡ whole_part x → n < 2 ^ 52
    → round binary64 (negative x) n 1 ≡ trunc x
unfolding is_nan
trunc_small nan n F N e h = absurd N
trunc_small (inf s) n F N e h = absurd (omega (arith, e, h))
trunc_small (fin s m d) n F N e h =
    ap (λ (t : Bool). round binary64 t n 1) (sym (sign_bit (fin s m d) F refl))
    ∙ ap (λ (z : ℕ). round binary64 s z 1) (e ∙ min_left (m * up d / down d) (subst (λ (z : ℕ). z < 2 ^ 52) e h))
    ∙ sym (trunc_is (fin s m d) tt)
  where
    min_left : (a : ℕ) → min a 4503599627370496 < 4503599627370496 → min a 4503599627370496 ≡ a
    min_left a h = omega arith

trunc_large : (x : Float) → T (fits binary64 x) → T (not (is_nan x)) → 2 ^ 52 ≤ whole_part x → x ≡ trunc x
unfolding is_nan
trunc_large nan F N h = absurd N
trunc_large (inf s) F N h = sym (trunc_inf s)
trunc_large (fin s m d) F N h =
    let n = m * up d in
    let l = down d in
    let L : 0 < l = down_pos d in
    let o = representable binary64 (fin s m d) F tt in
    let w = o.digits * 2 ^ (o.place - 1074) in
    let n_is : n ≡ w * l = whole_large n l o.digits o.place L o.exact o.few (reach (n / l) h) in
    sym (round_self binary64 (fin s m d) s w 1 (pow_pos 0) F (refl, mul-one n ∙ n_is))
    ∙ ap (λ (z : ℕ). round binary64 s z 1) (sym (ap (λ (z : ℕ). z / l) n_is ∙ mul-div_cancel w L))
    ∙ sym (trunc_is (fin s m d) tt)
  where
    reach : (a : ℕ) → 4503599627370496 ≤ min a 4503599627370496 → 4503599627370496 ≤ a
    reach a h = omega arith

-- ---- by the pattern b: its last p digits cleared
cleared_is : (b p : ℕ) → p ≤ 52 → b / 2 ^ p * 2 ^ p ≡ b / 2 ^ 52 * 2 ^ 52 + b % 2 ^ 52 / 2 ^ p * 2 ^ p
cleared_is b p h =
    let H = b / 2 ^ 52 in
    let t = b % 2 ^ 52 in
    let c = 2 ^ (52 - p) in
    let unit : c * 2 ^ p ≡ 2 ^ 52 = pow_split (52 - p) p 52 (back 52 p h) in
    let all : b ≡ H * c * 2 ^ p + t =
    sym (div-add-mod' b (2 ^ 52)) ∙ ap (λ (z : ℕ). H * z + t) (sym unit) ∙ ap (λ (z : ℕ). z + t) (sym (mul_assoc H c (2 ^ p))) in
    ap (λ (z : ℕ). z / 2 ^ p * 2 ^ p) all
    ∙ ap (λ (z : ℕ). z * 2 ^ p) (mul-add-div_right (pow_pos p) (H * c) t)
    ∙ add-mul (H * c) (t / 2 ^ p) (2 ^ p)
    ∙ ap (λ (z : ℕ). z + t / 2 ^ p * 2 ^ p) (mul_assoc H c (2 ^ p) ∙ ap (λ (z : ℕ). H * z) unit)

-- the same sign and field with other digits
other_digits : (b u : ℕ) → u < 4503599627370496
    → of_bits binary64 (b / 4503599627370496 * 4503599627370496 + u)
    ≡ of_fields binary64 (leb 9223372036854775808 b) (b % 9223372036854775808 / 4503599627370496) u
other_digits b u h =
    let d = b / 4503599627370496 * 4503599627370496 + u in
    let e : d % 9223372036854775808 / 4503599627370496 ≡ b % 9223372036854775808 / 4503599627370496 = omega arith in
    let g : d % 4503599627370496 ≡ u = omega arith in
    let s : leb 9223372036854775808 d ≡ leb 9223372036854775808 b =
    same_test (leb 9223372036854775808 d) (leb 9223372036854775808 b)
    (λ t. le→leb 9223372036854775808 b (set (leb→le 9223372036854775808 d t)))
    (λ t. le→leb 9223372036854775808 d (still_set (leb→le 9223372036854775808 b t))) in
    of_bits_is d ∙ rw (e, g, s)
  where
    set : 9223372036854775808 ≤ b / 4503599627370496 * 4503599627370496 + u → 9223372036854775808 ≤ b
    set k = omega arith

    still_set : 9223372036854775808 ≤ b → 9223372036854775808 ≤ b / 4503599627370496 * 4503599627370496 + u
    still_set k = omega arith

-- of a value whose unit is p places up, it leaves the whole part
cleared_value : (b p j : ℕ) → b % 9223372036854775808 / 4503599627370496 ≡ suc j → j + p ≡ 1074 → p ≤ 52
    → HasValue (of_bits binary64 (b / 2 ^ p * 2 ^ p)) (leb 9223372036854775808 b) ((2 ^ 52 + b % 2 ^ 52) / 2 ^ p) 1
cleared_value b p j e u h =
    let s = leb 9223372036854775808 b in
    let t = b % 2 ^ 52 in
    let t' = t / 2 ^ p * 2 ^ p in
    let q = (2 ^ 52 + t) / 2 ^ p in
    let c = 2 ^ (52 - p) in
    let unit : c * 2 ^ p ≡ 2 ^ 52 = pow_split (52 - p) p 52 (back 52 p h) in
    let less : t' < 2 ^ 52 = lt_of_le_of_lt (div-mul-le_self t (2 ^ p)) (mod-lt b (pow_pos 52)) in
    let whole : q * 2 ^ p ≡ 2 ^ 52 + t' =
    ap (λ (z : ℕ). (z + t) / 2 ^ p * 2 ^ p) (sym unit)
    ∙ ap (λ (z : ℕ). z * 2 ^ p) (mul-add-div_right (pow_pos p) c t)
    ∙ add-mul c (t / 2 ^ p) (2 ^ p)
    ∙ ap (λ (z : ℕ). z + t') unit in
    let is : of_bits binary64 (b / 2 ^ p * 2 ^ p) ≡ of_fields binary64 s (suc j) t' =
    ap (of_bits binary64) (cleared_is b p h) ∙ other_digits b t' less ∙ ap (λ (f : ℕ). of_fields binary64 s f t') e in
    let value : q * 2 ^ 1074 ≡ (2 ^ 52 + t') * 2 ^ j * 1 =
    ap (λ (z : ℕ). q * z) (sym (pow_split p j 1074 (add_comm p j ∙ u)))
    ∙ sym (mul_assoc q (2 ^ p) (2 ^ j))
    ∙ ap (λ (z : ℕ). z * 2 ^ j) whole
    ∙ sym (mul-one ((2 ^ 52 + t') * 2 ^ j)) in
    subst (λ (v : Float). HasValue v s q 1) (sym is)
    (rescale (of_fields binary64 s (suc j) t') s ((2 ^ 52 + t') * 2 ^ j) (2 ^ 1074) q 1 (pow_pos 1074) value
    (read_more s j t' (few j p u)))
  where
    few : (j p : ℕ) → j + p ≡ 1074 → suc j < 2047
    few j p h = omega arith

zero_pattern : (b : ℕ) → b < 18446744073709551616 → of_bits binary64 (b - b % 9223372036854775808) ≡ round binary64 (leb 9223372036854775808 b) 0 1
unfolding of_bits round
zero_pattern b h = go (lt_or_le b 9223372036854775808)
  where
    go : (b < 9223372036854775808) ⊎ (9223372036854775808 ≤ b)
        → of_bits binary64 (b - b % 9223372036854775808) ≡ round binary64 (leb 9223372036854775808 b) 0 1
    go (inl l) =
        let e : b - b % 9223372036854775808 ≡ 0 = omega arith in
        ap (of_bits binary64) e ∙ ap (λ (s : Bool). round binary64 s 0 1) (sym (lt-leb 9223372036854775808 b l))
    go (inr l) =
        let e : b - b % 9223372036854775808 ≡ 9223372036854775808 = omega arith in
        ap (of_bits binary64) e ∙ ap (λ (s : Bool). round binary64 s 0 1) (sym (le-leb 9223372036854775808 b l))

pub zero_no_nan : (b : ℕ) → T (not (nan_bits binary64 (b - b % 9223372036854775808)))
zero_no_nan b = bits_no_nan (b - b % 9223372036854775808) (omega arith)

module _ (x : Float) (F : T (fits binary64 x)) (N : T (not (is_nan x))) where
  abbrev b : ℕ
  b = to_bits binary64 x

  abbrev p : ℕ
  p = 1075 - field x

  pub trunc_zero : field x < 1023 → of_bits binary64 (b - b % 9223372036854775808) ≡ trunc x
  trunc_zero h = zero_pattern b (to_bits-lt binary64 x F) ∙ trunc_small x 0 F N (whole_below_one x F N h) (lit< tt)

  module _ (lo : 1023 ≤ field x) (hi : field x < 1075) where
    at_field : HasValue (of_bits binary64 (b / 2 ^ p * 2 ^ p)) (negative x) ((2 ^ 52 + b % 2 ^ 52) / 2 ^ p) 1
    at_field =
        let e : field x ≡ b % 9223372036854775808 / 4503599627370496 = and_mask (b / 2 ^ 52) 11 ∙ sym (middle b 11 52) in
        cleared_value b p (field x - 1) (sym e ∙ next (field x) lo) (sum (field x) lo hi) (under (field x) lo)
      where
        next : (f : ℕ) → 1023 ≤ f → f ≡ suc (f - 1)
        next f h = omega arith

        sum : (f : ℕ) → 1023 ≤ f → f < 1075 → f - 1 + (1075 - f) ≡ 1074
        sum f h g = omega arith

        under : (f : ℕ) → 1023 ≤ f → 1075 - f ≤ 52
        under f h = omega arith

    drop_mod : b / 2 ^ p * 2 ^ p % 2 ^ 64 ≡ b / 2 ^ p * 2 ^ p
    drop_mod = mod-eq_of_lt (lt_of_le_of_lt (div-mul-le_self b (2 ^ p)) (to_bits-lt binary64 x F))

    pub cleared_no_nan : T (not (nan_bits binary64 (b / 2 ^ p * 2 ^ p % 2 ^ 64)))
    cleared_no_nan =
        let v = of_bits binary64 (b / 2 ^ p * 2 ^ p) in
        let finite = has_finite v (negative x) ((2 ^ 52 + b % 2 ^ 52) / 2 ^ p) 1 at_field in
        subst (λ (n : ℕ). T (not (nan_bits binary64 n))) (sym drop_mod)
        (false_not (nan_bits binary64 (b / 2 ^ p * 2 ^ p)) (nan_bits_is binary64 (b / 2 ^ p * 2 ^ p) ∙ finite_no_nan v finite))

    pub trunc_cleared : of_bits binary64 (b / 2 ^ p * 2 ^ p % 2 ^ 64) ≡ trunc x
    trunc_cleared =
        let v = of_bits binary64 (b / 2 ^ p * 2 ^ p) in
        let n = (digits x + 2 ^ 52) / 2 ^ p in
        let same : (2 ^ 52 + b % 2 ^ 52) / 2 ^ p ≡ n =
        ap (λ (z : ℕ). z / 2 ^ p) (ap (λ (z : ℕ). 2 ^ 52 + z) (sym (and_mask b 52)) ∙ add_comm (2 ^ 52) (digits x)) in
        let wide : 2 ^ 53 ≤ 2 ^ 52 * 2 ^ p = le_trans (pow_mono (room (field x) hi)) (le_of_eq (pow-add 2 52 p)) in
        let few : n < 2 ^ 52 = (div-lt_iff_lt-mul (pow_pos p)).1 (lt_of_lt_of_le (short (digits x) (mask_lt b 52)) wide) in
        ap (of_bits binary64) drop_mod
        ∙ sym (round_self binary64 v (negative x) ((2 ^ 52 + b % 2 ^ 52) / 2 ^ p) 1 (pow_pos 0) (of_bits-fits binary64 (b / 2 ^ p * 2 ^ p)) at_field)
        ∙ ap (λ (z : ℕ). round binary64 (negative x) z 1) same
        ∙ trunc_small x n F N (whole_by_shift x F N (le_trans (lit≤ tt) lo) hi) few
      where
        short : (t : ℕ) → t < 4503599627370496 → t + 4503599627370496 < 2 ^ 53
        short t h = omega arith

        room : (f : ℕ) → f < 1075 → 53 ≤ 52 + (1075 - f)
        room f h = omega arith

  pub trunc_whole : 1075 ≤ field x → x ≡ trunc x
  trunc_whole h = trunc_large x F N (le_of_eq (whole_capped x F N h))
