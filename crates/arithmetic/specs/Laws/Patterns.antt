-- Bit patterns: the value that the fields of a binary64 pattern stand for, and the pattern of a value, so that a format has one value of
-- each sign and magnitude. 4503599627370496 is 2 ^ 52, 9218868437227405312 is 2047 * 2 ^ 52, the pattern of the infinity, and
-- 9223372036854775808 is 2 ^ 63, the sign. Assumes nothing.
use Rattle.std.specs.Prelude.{◌≡◌, ℕ, suc, ◌+◌, ◌-◌, ◌*◌, ◌/◌, ◌%◌, ◌^◌, ◌<◌, ◌≤◌, Bool, true, false, cond, not, T, ◌==◌, ◌≢◌, is_nan, nat_le, refl, Float}
use Rattle.std.proofs.Common.{sym, ap, ◌∙◌, subst, mod-eq_of_lt, zero-add, mul_right_comm, arith, le-leb, ne_eqb, le-ltb, ltb-false}
use Rattle.std.proofs.lemmas.Bool.{lt-leb}
use Rattle.std.specs.Float.{nan, inf, fin, Format, binary64}
use Rattle.std.specs.Float.Ieee.{prec, low, hid, top, up, down, size, odd, fits, of_fields, of_bits, to_bits, nan_bits}
use Rattle.std.specs.Float.Ieee.Fits.{down_pos}
use Rattle.std.specs.Float.Ieee.Bits.{of_bits-to_bits, nan_bits_is, nan_bits_above}
use Rattle.std.specs.Float.Ieee.Exact.{HasValue, odd_sign}
use Rattle.std.specs.Float.Ieee.Nearest.{div_same}
use Rattle.std.specs.Float.Ieee.Scale.{finite}
use Rattle.arithmetic.specs.Laws.Numbers.{false_not}

-- ---- the fields of a pattern
pub of_bits_is : (b : ℕ) → of_bits binary64 b ≡ of_fields binary64 (nat_le 9223372036854775808 b) (b % 9223372036854775808 / 4503599627370496) (b % 4503599627370496)
unfolding of_bits
of_bits_is b = refl

-- of the sign s and the bits r below it
pub signed_is : (s : Bool) (r : ℕ) → r < 9223372036854775808
    → of_bits binary64 (cond s 9223372036854775808 0 + r) ≡ of_fields binary64 s (r / 4503599627370496) (r % 4503599627370496)
signed_is true r h =
    let b = 9223372036854775808 + r in
    let e : b % 9223372036854775808 ≡ r = omega arith in
    let g : b % 4503599627370496 ≡ r % 4503599627370496 = omega arith in
    of_bits_is b ∙ rw (le-leb 9223372036854775808 b (omega arith), e, g)
signed_is false r h = ap (of_bits binary64) (zero-add r) ∙ of_bits_is r ∙ rw (lt-leb 9223372036854775808 r h, mod-eq_of_lt h)

pub at_zero : (s : Bool) (t : ℕ) → of_fields binary64 s 0 t ≡ odd 53 s t 0 1074
unfolding of_fields
at_zero s t = refl

pub above_zero : (s : Bool) (x t : ℕ)
    → of_fields binary64 s (suc x) t ≡ cond (suc x == 2047) (cond (t == 0) (inf s) nan) (odd 53 s (4503599627370496 + t) x 1074)
unfolding of_fields
above_zero s x t = refl

under_ones : (s : Bool) (x t : ℕ) → suc x < 2047 → of_fields binary64 s (suc x) t ≡ odd 53 s (4503599627370496 + t) x 1074
under_ones s x t h = above_zero s x t ∙ rw (ne_eqb (suc x) 2047 (λ e. omega arith))

-- the finite values: the digits t, after a leading one where the field is not 0
pub read_zero : (s : Bool) (t : ℕ) → HasValue (of_fields binary64 s 0 t) s (t * 2 ^ 0) (2 ^ 1074)
read_zero s t = subst (λ (v : Float). HasValue v s (t * 2 ^ 0) (2 ^ 1074)) (sym (at_zero s t)) (odd_sign 53 s t 0 1074)

pub read_more : (s : Bool) (x t : ℕ) → suc x < 2047 → HasValue (of_fields binary64 s (suc x) t) s ((4503599627370496 + t) * 2 ^ x) (2 ^ 1074)
read_more s x t h =
    subst (λ (v : Float). HasValue v s ((4503599627370496 + t) * 2 ^ x) (2 ^ 1074)) (sym (under_ones s x t h))
    (odd_sign 53 s (4503599627370496 + t) x 1074)

pub finite_field : (s : Bool) (x t : ℕ) → T (finite (of_fields binary64 s x t)) → x ≢ 2047
unfolding of_fields
finite_field s x t h e = go (t == 0) (subst (λ (y : ℕ). T (finite (of_fields binary64 s y t))) e h)
  where
    go : (b : Bool) → T (finite (cond b (inf s) nan)) → ⊥
    go true k = k
    go false k = k

-- ---- patterns with the sign clear
unsigned_is : (b : ℕ) → b < 9223372036854775808 → of_bits binary64 b ≡ of_fields binary64 false (b / 4503599627370496) (b % 4503599627370496)
unsigned_is b h = ap (of_bits binary64) (sym (zero-add b)) ∙ signed_is false b h

-- a subnormal value, or zero
pub subnormal : (b : ℕ) → b < 4503599627370496 → of_bits binary64 b ≡ odd 53 false b 0 1074
subnormal b h =
    let e : b / 4503599627370496 ≡ 0 = omega arith in
    unsigned_is b (omega arith) ∙ rw (e, mod-eq_of_lt h) (at_zero false b)

pub normal : (b : ℕ) → 4503599627370496 ≤ b → b < 9218868437227405312
    → of_bits binary64 b ≡ odd 53 false (4503599627370496 + b % 4503599627370496) (b / 4503599627370496 - 1) 1074
normal b h k =
    let e : b / 4503599627370496 ≡ suc (b / 4503599627370496 - 1) = omega arith in
    unsigned_is b (omega arith)
    ∙ ap (λ (x : ℕ). of_fields binary64 false x (b % 4503599627370496)) e
    ∙ under_ones false (b / 4503599627370496 - 1) (b % 4503599627370496) (omega arith)

-- the pattern that is put together of k steps of the exponent's field and the significand q of 53 digits
pub built : (k q : ℕ) → k < 2046 → 4503599627370496 ≤ q → q < 9007199254740992 → of_bits binary64 (k * 4503599627370496 + q) ≡ odd 53 false q k 1074
built k q K lo hi =
    let b = k * 4503599627370496 + q in
    let d : 4503599627370496 + b % 4503599627370496 ≡ q = omega arith in
    let e : b / 4503599627370496 - 1 ≡ k = omega arith in
    normal b (omega arith) (omega arith) ∙ rw (d, e)

-- ---- patterns of no NaN
pub bits_no_nan : (b : ℕ) → b % 9223372036854775808 ≤ 9218868437227405312 → T (not (nan_bits binary64 b))
bits_no_nan b h = false_not (nan_bits binary64 b) (nan_bits_above binary64 b ∙ le-ltb 9218868437227405312 (b % 9223372036854775808) h)

pub built_no_nan : (k q : ℕ) → k < 2046 → q < 9007199254740992 → T (not (nan_bits binary64 (k * 4503599627370496 + q)))
built_no_nan k q K hi = bits_no_nan (k * 4503599627370496 + q) (omega arith)

-- what is no NaN has, with the sign taken off, at most the infinity's pattern
pub no_nan : (b : ℕ) → is_nan (of_bits binary64 b) ≡ false → b % 9223372036854775808 ≤ 9218868437227405312
no_nan b h = ltb-false 9218868437227405312 (b % 9223372036854775808) (sym (nan_bits_above binary64 b) ∙ nan_bits_is binary64 b ∙ h)

-- ---- the pattern of a value of n units of the smallest value
abbrev pub bits_at : Format → Bool → ℕ → ℕ
bits_at f s n = cond s (top f) 0 + (size n - prec f) * hid f + n / 2 ^ (size n - prec f)

pub bits_of : (f : Format) (x : Float) (s : Bool) (a c : ℕ) → 0 < c → HasValue x s a c → to_bits f x ≡ bits_at f s (a * 2 ^ low f / c)
unfolding to_bits
bits_of f nan s a c C v = absurd v
bits_of f (inf t) s a c C v = absurd v
bits_of f (fin t m e) s a c C v =
    ap (λ (n : ℕ). bits_at f t n) (div_same (m * up e * 2 ^ low f) (down e) (a * 2 ^ low f) c (down_pos e) C
    (mul_right_comm (m * up e) (2 ^ low f) c ∙ ap (λ (z : ℕ). z * 2 ^ low f) v.1 ∙ mul_right_comm a (down e) (2 ^ low f)))
    ∙ ap (λ (b : Bool). bits_at f b (a * 2 ^ low f / c)) v.0

pub value_unique : (f : Format) (x y : Float) (s : Bool) (a c : ℕ) → 0 < c → T (fits f x) → T (fits f y) → HasValue x s a c → HasValue y s a c → x ≡ y
value_unique f x y s a c C p q v w = sym (of_bits-to_bits f x p) ∙ ap (of_bits f) (bits_of f x s a c C v ∙ sym (bits_of f y s a c C w)) ∙ of_bits-to_bits f y q
