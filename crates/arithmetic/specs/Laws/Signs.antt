-- The sign of a value, infinities and NaN, as comparisons and bit patterns show them. 9223372036854775808 is 2 ^ 63. Assumes nothing.
use Rattle.std.specs.Prelude.{◌≡◌, ℕ, zero, suc, ◌+◌, ◌/◌, ◌%◌, ◌<◌, ◌≤◌, Bool, true, false, cond, not, ◌&&◌, ◌||◌, T, ◌==◌, nat_le, nat_lt, to_bits, refl, Float}
use Rattle.std.proofs.Common.{sym, ap, ◌∙◌, subst, mod-eq_of_lt, arith, true≢false, le-leb, le-ltb, lt-ltb, leb-true, leb-false}
use Rattle.std.proofs.lemmas.Bool.{lt-leb}
use Rattle.std.specs.Float.{nan, inf, fin, binary64}
use Rattle.std.specs.Float.Ieee.{odd, of_fields, of_bits, nan_bits, fits, is_nan, neg, lt, eq, ne}
use Rattle.std.specs.Float.Ieee.Bits.{of_bits-to_bits, nan_bits_is}
use Rattle.std.specs.Float.Ieee.Compare.{differs_from_itself}
use Rattle.std.specs.Float.Ieee.Scale.{finite}
use Rattle.arithmetic.specs.Operations.{bits, infinity, one}
use Rattle.arithmetic.specs.Basic.{is_sign_minus, abs, signum, is_infinite}
use Rattle.arithmetic.specs.Laws.Compare.{is_no_nan}
use Rattle.arithmetic.specs.Laws.Patterns.{of_bits_is, at_zero, above_zero}

-- ---- NaN: what differs from itself
pub is_nan_lem : (x : Float) → ne x x ≡ true → x ≡ nan
is_nan_lem x h = differs_from_itself x (subst T (sym h) tt)

pub has_bits : (x : Float) → ne x x ≡ false → T (not (is_nan x))
has_bits x h = subst (λ (b : Bool). T (not b)) (sym (is_no_nan x h)) tt

-- ---- the infinities
pub finite_test : (x : Float) → (lt x infinity && lt (bits 0xfff0_0000_0000_0000) x) ≡ finite x
unfolding lt of_bits
finite_test nan = refl
finite_test (inf true) = refl
finite_test (inf false) = refl
finite_test (fin s m e) = refl

pub infinite_test : (x : Float) → (eq x infinity || eq x (bits 0xfff0_0000_0000_0000)) ≡ is_infinite x
unfolding eq is_nan of_bits
infinite_test nan = refl
infinite_test (inf true) = refl
infinite_test (inf false) = refl
infinite_test (fin s m e) = refl

-- ---- the sign is the pattern's highest bit
odd_minus : (s : Bool) (q k : ℕ) → is_sign_minus (odd 53 s q k 1074) ≡ s
unfolding odd
odd_minus s zero k = refl
odd_minus s (suc q) k = refl

odd_abs : (s : Bool) (q k : ℕ) → abs (odd 53 s q k 1074) ≡ odd 53 false q k 1074
unfolding odd abs
odd_abs s zero k = refl
odd_abs s (suc q) k = refl

fields_minus : (s : Bool) (x t : ℕ) → is_nan (of_fields binary64 s x t) ≡ false → is_sign_minus (of_fields binary64 s x t) ≡ s
unfolding is_nan
fields_minus s zero t h = ap is_sign_minus (at_zero s t) ∙ odd_minus s t 0
fields_minus s (suc x) t h = ap is_sign_minus (above_zero s x t) ∙ go (suc x == 2047) (t == 0) (ap is_nan (sym (above_zero s x t)) ∙ h)
  where
    value : Float
    value = odd 53 s (4503599627370496 + t) x 1074

    go : (a b : Bool) → is_nan (cond a (cond b (inf s) nan) value) ≡ false → is_sign_minus (cond a (cond b (inf s) nan) value) ≡ s
    go true true h = refl
    go true false h = absurd (true≢false h)
    go false b h = odd_minus s (4503599627370496 + t) x

fields_abs : (s : Bool) (x t : ℕ) → abs (of_fields binary64 s x t) ≡ of_fields binary64 false x t
unfolding abs
fields_abs s zero t = ap abs (at_zero s t) ∙ odd_abs s t 0 ∙ sym (at_zero false t)
fields_abs s (suc x) t = ap abs (above_zero s x t) ∙ go (suc x == 2047) (t == 0) ∙ sym (above_zero false x t)
  where
    value : Bool → Float
    value u = odd 53 u (4503599627370496 + t) x 1074

    go : (a b : Bool) → abs (cond a (cond b (inf s) nan) (value s)) ≡ cond a (cond b (inf false) nan) (value false)
    go true true = refl
    go true false = refl
    go false b = odd_abs s (4503599627370496 + t) x

-- a value's pattern with the sign taken off is that of its absolute value
pub abs_bits : (x : Float) → T (fits binary64 x) → of_bits binary64 (to_bits binary64 x % 9223372036854775808) ≡ abs x
abs_bits x h = go (to_bits binary64 x) ∙ ap abs (of_bits-to_bits binary64 x h)
  where
    same : (b : ℕ) → b % 9223372036854775808 % 4503599627370496 ≡ b % 4503599627370496
    same b = omega arith

    go : (b : ℕ) → of_bits binary64 (b % 9223372036854775808) ≡ abs (of_bits binary64 b)
    go b =
        let r = b % 9223372036854775808 in
        of_bits_is r
        ∙ ap (λ (s : Bool). of_fields binary64 s (r % 9223372036854775808 / 4503599627370496) (r % 4503599627370496))
        (lt-leb 9223372036854775808 r (omega arith))
        ∙ ap (λ (n : ℕ). of_fields binary64 false (n / 4503599627370496) (r % 4503599627370496)) (mod-eq_of_lt (omega arith))
        ∙ ap (of_fields binary64 false (r / 4503599627370496)) (same b)
        ∙ sym (ap abs (of_bits_is b) ∙ fields_abs (nat_le 9223372036854775808 b) (r / 4503599627370496) (b % 4503599627370496))

pub abs_no_nan : (x : Float) → T (fits binary64 x) → is_nan x ≡ false → T (not (nan_bits binary64 (to_bits binary64 x % 9223372036854775808)))
unfolding abs is_nan
abs_no_nan x h n = subst (λ (b : Bool). T (not b)) (sym (nan_bits_is binary64 (to_bits binary64 x % 9223372036854775808) ∙ ap is_nan (abs_bits x h) ∙ go x n)) tt
  where
    go : (x : Float) → is_nan x ≡ false → is_nan (abs x) ≡ false
    go nan n = n
    go (inf s) n = refl
    go (fin s m e) n = refl

pub sign_bit : (x : Float) → T (fits binary64 x) → is_nan x ≡ false → is_sign_minus x ≡ nat_le 9223372036854775808 (to_bits binary64 x)
sign_bit x h n =
    let b = to_bits binary64 x in
    sym (ap is_sign_minus back)
    ∙ ap is_sign_minus (of_bits_is b)
    ∙ fields_minus (nat_le 9223372036854775808 b) (b % 9223372036854775808 / 4503599627370496) (b % 4503599627370496)
    (ap is_nan (sym (of_bits_is b) ∙ back) ∙ n)
  where
    back : of_bits binary64 (to_bits binary64 x) ≡ x
    back = of_bits-to_bits binary64 x h

module _ (x : Float) (h : T (fits binary64 x)) (n : is_nan x ≡ false) where
  pub sign_clear : to_bits binary64 x < 9223372036854775808 → is_sign_minus x ≡ false
  sign_clear l = sign_bit x h n ∙ lt-leb 9223372036854775808 (to_bits binary64 x) l

  pub sign_set : 9223372036854775808 ≤ to_bits binary64 x → is_sign_minus x ≡ true
  sign_set l = sign_bit x h n ∙ le-leb 9223372036854775808 (to_bits binary64 x) l

pub sign_test : (x : Float) → T (fits binary64 x) → is_nan x ≡ false → nat_lt (to_bits binary64 x) 9223372036854775808 ≡ not (is_sign_minus x)
sign_test x h n = go (nat_le 9223372036854775808 b) refl ∙ sym (ap not (sign_bit x h n))
  where
    b : ℕ
    b = to_bits binary64 x

    go : (t : Bool) → nat_le 9223372036854775808 b ≡ t → nat_lt b 9223372036854775808 ≡ not (nat_le 9223372036854775808 b)
    go true e = le-ltb b 9223372036854775808 (leb-true 9223372036854775808 b e) ∙ sym (ap not e)
    go false e = lt-ltb b 9223372036854775808 (leb-false 9223372036854775808 b e) ∙ sym (ap not e)

-- ---- `signum` by the sign
pub signum_is : (x : Float) → is_nan x ≡ false → signum x ≡ cond (is_sign_minus x) (neg one) one
unfolding signum is_nan
signum_is nan n = absurd (true≢false n)
signum_is (inf s) n = refl
signum_is (fin s m e) n = refl
