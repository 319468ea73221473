-- A price of -0 is answered as a price of +0 by the two entries of Quote.antt, whatever the side and the other figures are. Assumes nothing.
use Rattle.std.specs.Prelude.{◌≡◌, refl, ℕ, zero, suc, ◌+◌, ◌-◌, ◌*◌, ◌^◌, ◌<◌, Bool, true, false, ◌&&◌, ◌||◌, cond, T, eqb, ltb, Float}
use Rattle.std.proofs.Common.{sym, ap, ◌∙◌, subst, zero-mul, mul-one, add-zero, mul-pos, zero-lt-suc, arith, eqb→eq, ltb→lt, lt→ltb, pow_pos}
use Rattle.std.proofs.Math.Nat.{eq_of_mul-eq-mul_right}
use Rattle.std.specs.Bool.{beq}
use Rattle.std.proofs.Math.Bool.{or-true}
use Rattle.std.proofs.lemmas.Bool.{false≢true}
use Rattle.std.proofs.Math.Dec.{leb-suc-zero, eqb-suc-zero}
use Rattle.std.specs.Float.{nan, inf, fin, binary64}
use Rattle.std.specs.Float.Ieee.{low, prec, emax, up, down, unlike, le, lt, eq, sub, div, sum, round, below, level, of_bits}
use Rattle.std.specs.Float.Ieee.Fits.{up_pos}
use Rattle.std.specs.Float.Ieee.Bits.{is_true}
use Rattle.std.specs.Float.Ieee.Exact.{HasValue, round_exact}
use Rattle.std.specs.Float.Ieee.Scale.{finite}
use Rattle.std.specs.Float.Ieee.Positive.{num, den, den_pos}
use Rattle.arithmetic.specs.Operations.{◌⊖◌, ◌⊗◌, ◌⊘◌, bits, plus_zero, min_positive}
use Rattle.arithmetic.specs.Basic.{is_sign_minus, max}
use Rattle.arithmetic.specs.Sqrt.{sqrt}
use Rattle.arithmetic.specs.Laws.Choices.{refuted}
use Rattle.arithmetic.specs.Laws.Times.{has_finite, cross}
use Rattle.arithmetic.specs.Laws.Compare.{lt_is, eq_is}
use Rattle.arithmetic.specs.Laws.ScaledRatios.{PositiveNormal, plus, num_above}
use Rattle.arithmetic.specs.Laws.Zeros.{zero_of}
use Rattle.bs_option_price.specs.BsOptionPrice.{negative_abs_log_moneyness}
use Rattle.inverse_gaussian.specs.Counted.{at_once}
use Rattle.explicit_black.specs.Quote.{total, from_normalised_price, implied_black_volatility_normalised, first_refusal, intrinsic_value, price_bound}
use Rattle.explicit_black.specs.Quote.{from_time_value, from_price, from_quote, implied_black_volatility_input}

-- ---- comparisons with a zero
eq_zero : (s : Bool) (x : Float) → eq (zero_of s) x ≡ eq (zero_of false) x
unfolding eq
eq_zero false x = refl
eq_zero true nan = refl
eq_zero true (inf s) = refl
eq_zero true (fin true n d) = rw (zero-mul (down d))
eq_zero true (fin false n d) = rw (zero-mul (down d))

-- a zero of either sign bounds the same values
le-zero : (s : Bool) (x : Float) → le x (zero_of s) ≡ le x (zero_of false)
unfolding le
le-zero false x = refl
le-zero true nan = refl
le-zero true (inf s) = refl
le-zero true (fin s n d) = rw (zero-mul (down d)) (go s (n * up d * 1))
  where
    and_self : (b : Bool) → (b && b) ≡ (b && true)
    and_self true = refl
    and_self false = refl

    go : (s : Bool) (a : ℕ) → (below s a true 0 || level s a true 0) ≡ (below s a false 0 || level s a false 0)
    go false a = rw (leb-suc-zero a) (and_self (eqb a 0))
    go true a = rw (add-zero a, and_self (eqb a 0))

above_zero : (a b : ℕ) → 0 < a → b ≡ 0 → a ≡ b → ⊥
above_zero a b h e g = omega arith

not_under : (a b : ℕ) → b ≡ 0 → a < b → ⊥
not_under a b e h = omega arith

pub bound_above : (s : Bool) (b : Float) → PositiveNormal b → le b (zero_of s) ≡ false
unfolding le
bound_above s b o =
    let z = zero_of s in
    let n = num b * 1 in
    let m = 0 * den b in
    let up : 0 < n = subst (λ (k : ℕ). 0 < k) (sym (mul-one (num b))) (num_above b o) in
    let l : lt b z ≡ false = lt_is b z o.bounded tt ∙ ap (λ (t : Bool). below t n s m) (plus b o) ∙ go s in
    let differ : eqb n m ≡ false = refuted (eqb n m) (λ t. above_zero n m up (zero-mul (den b)) (eqb→eq n m t)) in
    let q : eq b z ≡ false = eq_is b z o.bounded tt ∙ ap (λ (t : Bool). t && (beq (is_sign_minus b) s || eqb n 0)) differ in
    rw (l, q)
  where
    go : (s : Bool) → below false (num b * 1) s (0 * den b) ≡ false
    go true = refl
    go false = refuted (ltb (num b * 1) (0 * den b)) (λ t. not_under (num b * 1) (0 * den b) (zero-mul (den b)) (ltb→lt (num b * 1) (0 * den b) t))

-- ---- a zero less a value above 0
both_ways : (a b : ℕ) → a ≡ 0 → a + b ≡ b - a
both_ways a b e = omega arith

sum_minus : (a b c : ℕ) → a ≡ 0 → T (ltb a b) → sum binary64 true a true b c ≡ sum binary64 false a true b c
unfolding sum
sum_minus a b c e t = ap (λ (n : ℕ). round binary64 true n c) (both_ways a b e) ∙ sym (go (ltb a b) t)
  where
    go : (u : Bool) → T u → cond u (round binary64 true (b - a) c) (round binary64 (false && ltb b a) (a - b) c) ≡ round binary64 true (b - a) c
    go true t = refl
    go false t = absurd t

sub-zero : (s : Bool) (d : Float) → T (lt plus_zero d) → zero_of s ⊖ d ≡ zero_of false ⊖ d
unfolding sub lt of_bits
sub-zero false d h = refl
sub-zero true nan h = refl
sub-zero true (inf t) h = refl
sub-zero true (fin true n d) h = absurd h
sub-zero true (fin false n d) h = sum_minus (0 * down d) (n * up d * 1) (1 * down d) (zero-mul (down d)) h

-- ---- a zero divided by the product of the roots
pub record IsZero (v : Float) : Type 0 where
  pub bounded : T (finite v)
  pub vanishes : num v ≡ 0

zero_is : (s : Bool) → IsZero (zero_of s)
zero_is s = record { bounded = tt; vanishes = refl }

is_zero_of : (v : Float) (s : Bool) (a c : ℕ) → 0 < c → a ≡ 0 → HasValue v s a c → IsZero v
is_zero_of v s a c C e h = record {
  bounded = has_finite v s a c h;
  vanishes = eq_of_mul-eq-mul_right c C (num v) 0 (cross v s a c h ∙ ap (λ (z : ℕ). z * den v) e ∙ zero-mul (den v) ∙ sym (zero-mul c));
}

pub round_is_zero : (s : Bool) (a c : ℕ) → 0 < c → a ≡ 0 → IsZero (round binary64 s a c)
round_is_zero s a c C e =
    let vanishes : a * 2 ^ low binary64 ≡ 0 * c = ap (λ (z : ℕ). z * 2 ^ low binary64) e ∙ zero-mul (2 ^ low binary64) ∙ sym (zero-mul c) in
    is_zero_of (round binary64 s a c) s a c C e
    (round_exact binary64 s a c 0 0 C (pow_pos (prec binary64)) (pow_pos (low binary64 + suc (emax binary64))) vanishes)

or_left : (a b : Bool) → a ≡ true → (a || b) ≡ true
or_left true b e = refl
or_left false b e = absurd (false≢true e)

pub or_right : (a b : Bool) → b ≡ true → (a || b) ≡ true
or_right true b e = refl
or_right false b e = e

zero_low : (v : Float) → IsZero v → le v min_positive ≡ true
unfolding le of_bits
zero_low v n = or_left (lt v min_positive) (eq v min_positive) (lt_is v min_positive n.bounded tt ∙ go (is_sign_minus v))
  where
    a : ℕ
    a = num v * den min_positive

    b : ℕ
    b = num min_positive * den v

    vanishes : a ≡ 0
    vanishes = ap (λ (z : ℕ). z * den min_positive) n.vanishes ∙ zero-mul (den min_positive)

    above : 0 < b
    above = mul-pos (pow_pos 0) (den_pos v)

    below_bound : (a b : ℕ) → a ≡ 0 → 0 < b → (a < b) × (0 < a + b)
    below_bound a b e h = (omega arith, omega arith)

    go : (s : Bool) → below s a false b ≡ true
    go false = is_true (ltb a b) (lt→ltb a b (below_bound a b vanishes above).0)
    go true = is_true (ltb 0 (a + b)) (lt→ltb 0 (a + b) (below_bound a b vanishes above).1)

pub zero_not_below : (v : Float) → IsZero v → le plus_zero v ≡ true
unfolding le of_bits
zero_not_below v n =
    or_right (lt plus_zero v) (eq plus_zero v)
    (eq_is plus_zero v tt n.bounded ∙ rw (zero-mul (den v), n.vanishes) (or-true (beq false (is_sign_minus v))))

-- ---- the total is 0
zero_from_time_value : (x v : Float) → IsZero v → from_time_value x v ≡ at_once (total plus_zero)
unfolding from_time_value
zero_from_time_value x v n = rw (zero_low v n, zero_not_below v n)

-- ±0 / r is NaN for both signs of the zero, or a zero for both
zero_same : (x v w : Float) → IsZero v → IsZero w → from_time_value x v ≡ from_time_value x w
zero_same x v w n m = zero_from_time_value x v n ∙ sym (zero_from_time_value x w m)

zero_over : (s : Bool) (x r : Float) → from_time_value x (zero_of s ⊘ r) ≡ from_time_value x (zero_of false ⊘ r)
unfolding div
zero_over s x nan = refl
zero_over s x (inf t) = zero_same x (zero_of (unlike s t)) (zero_of (unlike false t)) (zero_is (unlike s t)) (zero_is (unlike false t))
zero_over s x (fin t zero d) = refl
zero_over s x (fin t (suc n) d) = rw (eqb-suc-zero n) (zero_same x _ _ (quotient s) (quotient false))
  where
    quotient : (s : Bool) → IsZero (round binary64 (unlike s t) (0 * down d) (suc n * up d * 1))
    quotient s =
        round_is_zero (unlike s t) (0 * down d) (suc n * up d * 1) (mul-pos (mul-pos (zero-lt-suc n) (up_pos d)) (pow_pos 0)) (zero-mul (down d))

pub zero_from_price : (s : Bool) (d b r x t : Float) → from_price (zero_of s) d b r x t ≡ from_price (zero_of false) d b r x t
unfolding from_price
zero_from_price s d b r x t = rw (eq_zero s (max d plus_zero), le-zero s b, eq_zero s b, go (lt plus_zero d) (sub-zero s d))
  where
    go : (u : Bool) → (T u → zero_of s ⊖ d ≡ zero_of false ⊖ d)
        → from_time_value x (cond u (zero_of s ⊖ d) (zero_of s) ⊘ r) ≡ from_time_value x (cond u (zero_of false ⊖ d) (zero_of false) ⊘ r)
    go true e = ap (λ (z : Float). from_time_value x (z ⊘ r)) (e tt)
    go false e = zero_over s x r

-- ---- MINUS ZERO AS PRICE IS ZERO, for a side of any number and other figures of any bits: the replies are the same
abbrev pub minus_zero : Float
minus_zero = bits 0x8000_0000_0000_0000

pub input_of_minus_zero : (side : ℕ) (forward strike time : Float)
    → implied_black_volatility_input side minus_zero forward strike time ≡ implied_black_volatility_input side plus_zero forward strike time
unfolding implied_black_volatility_input from_quote first_refusal of_bits
input_of_minus_zero side f k t =
    rw (zero_from_price true (intrinsic_value side f k) (price_bound side f k) (sqrt f ⊗ sqrt k) (negative_abs_log_moneyness f k) t)

pub normalised_of_minus_zero : (log_moneyness : Float)
    → implied_black_volatility_normalised log_moneyness minus_zero ≡ implied_black_volatility_normalised log_moneyness plus_zero
unfolding implied_black_volatility_normalised from_normalised_price le of_bits
normalised_of_minus_zero x = refl
