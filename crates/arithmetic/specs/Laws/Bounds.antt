-- Rounding keeps the order of magnitudes: what is at most or at least a value of the format rounds to what is; below half of the smallest
-- value it rounds to a zero, and from 2 ^ 1024 on to an infinity. No finite value is above `max_finite`. Assumes nothing.
use Rattle.std.specs.Prelude.{◌≡◌, ℕ, ◌-◌, ◌*◌, ◌^◌, ◌<◌, ◌≤◌, Bool, true, false, ◌&&◌, ◌||◌, T, pos, ◌==◌, nat_lt, refl, Float}
use Rattle.std.proofs.Common.{sym, ap, ◌∙◌, subst, inl, inr, zero-le, le_refl, le_trans, le_of_eq, le_of_lt, lt_of_le_of_lt, le_antisymm, mul-one, mul_assoc, mul_right_comm, mul-le-mul, mul-le-mul_right, le_of_mul-le-mul_right, lt_of_mul-lt-mul_right, arith, true≢false, ltb→lt, eqb→eq, pow_pos, pow_mono}
use Rattle.std.proofs.Math.Nat.{div-eq_of_lt}
use Rattle.std.specs.Float.{nan, inf, fin, Format, binary64}
use Rattle.std.specs.Float.Ieee.{low, up, down, size, units, round, neg, le, fits, of_bits}
use Rattle.std.specs.Float.Ieee.Fits.{round_is}
use Rattle.std.specs.Float.Ieee.Nearest.{closest, closest_mono}
use Rattle.std.specs.Float.Ieee.Order.{transfer, drop, round_mono, le_of_values}
use Rattle.std.specs.Float.Ieee.Scale.{grid, overflow, finite}
use Rattle.std.specs.Float.Ieee.Positive.{num, den, den_pos}
use Rattle.arithmetic.specs.Operations.{max_finite}
use Rattle.arithmetic.specs.Basic.{is_sign_minus}
use Rattle.arithmetic.specs.Laws.Times.{cross, has_sign, has_finite, of_cross, neg_num, neg_den}
use Rattle.arithmetic.specs.Laws.Rounding.{round_value, round_under}
use Rattle.arithmetic.specs.Laws.Numbers.{lt_or_le, pow_split}
use Rattle.arithmetic.specs.Laws.Representable.{representable, round_representable, grid_under}
use Rattle.arithmetic.specs.Laws.Identities.{round_neg}

-- ---- an order of two values with the sign +, as one of fractions
pub le_cross : (x y : Float) → T (finite x) → T (finite y) → is_sign_minus x ≡ false → is_sign_minus y ≡ false → T (le x y)
    → num x * den y ≤ num y * den x
unfolding le
le_cross nan y p q s t h = absurd p
le_cross (inf u) y p q s t h = absurd p
le_cross (fin u m e) nan p q s t h = absurd q
le_cross (fin u m e) (inf v) p q s t h = absurd q
le_cross (fin true m e) (fin v n d) p q s t h = absurd (true≢false s)
le_cross (fin false m e) (fin true n d) p q s t h = absurd (true≢false t)
le_cross (fin false m e) (fin false n d) p q s t h =
    go (nat_lt (m * up e * down d) (n * up d * down e)) (m * up e * down d == n * up d * down e)
    (λ u. le_of_lt (ltb→lt (m * up e * down d) (n * up d * down e) u)) (λ u. le_of_eq (eqb→eq (m * up e * down d) (n * up d * down e) u)) h
  where
    go : {X : Type 0} (u v : Bool) → (T u → X) → (T v → X) → T (u || (v && true)) → X
    go true v f g t = f tt
    go false true f g t = g tt
    go false false f g t = absurd t

-- ---- rounding keeps the order of two magnitudes, so it does not pass a value of the format
-- the magnitude is the same with either sign
module _ (f : Format) (s : Bool) (a c : ℕ) where
  round_num : num (round f s a c) ≡ num (round f false a c)
  round_num = elim s as (λ v. num (round f v a c) ≡ num (round f false a c)) [ false ↦ refl | true ↦ ap num (round_neg f false a c) ∙ neg_num (round f false a c) ]

  round_den : den (round f s a c) ≡ den (round f false a c)
  round_den = elim s as (λ v. den (round f v a c) ≡ den (round f false a c)) [ false ↦ refl | true ↦ ap den (round_neg f false a c) ∙ neg_den (round f false a c) ]

-- a / c and b / d do not overflow
module _ (f : Format) (a c b d : ℕ) (C : 0 < c) (D : 0 < d) (A : grid f a c < overflow f) (B : grid f b d < overflow f) where
  plain_order : a * d ≤ b * c → num (round f false a c) * den (round f false b d) ≤ num (round f false b d) * den (round f false a c)
  plain_order h =
      let R = round_value f false a c A in
      let Z = round_value f false b d B in
      let r = round f false a c in
      let z = round f false b d in
      let l = 2 ^ low f in
      le_cross r z (has_finite r false (grid f a c) l R) (has_finite z false (grid f b d) l Z) (has_sign r false (grid f a c) l R)
      (has_sign z false (grid f b d) l Z) (round_mono f a c b d C D h)

pub round_order : (f : Format) (s t : Bool) (a c b d : ℕ) → 0 < c → 0 < d → T (finite (round f s a c)) → T (finite (round f t b d)) → a * d ≤ b * c
    → num (round f s a c) * den (round f t b d) ≤ num (round f t b d) * den (round f s a c)
round_order f s t a c b d C D p q h =
    rw (round_num f s a c, round_den f s a c, round_num f t b d, round_den f t b d)
    (plain_order f a c b d C D (round_under f s a c p) (round_under f t b d q) h)

-- v is a value of the format; rounding leaves it as it is
module _ (f : Format) (s : Bool) (a c : ℕ) (v : Float) (C : 0 < c) (F : T (fits f v)) (p : T (finite v)) where
  abbrev rounded : Float
  rounded = round f s a c

  abbrev v_rounded : Float
  v_rounded = round f false (num v) (den v)

  unchanged : num v * den v_rounded ≡ num v_rounded * den v
  unchanged = sym (cross v_rounded false (num v) (den v) (round_representable f false v F p))

  no_overflow : grid f (num v) (den v) < overflow f
  no_overflow = grid_under f (num v) (den v) v (den_pos v) F p (le_refl (num v * den v))

  not_above : grid f a c < overflow f → a * den v ≤ num v * c → num rounded * den v ≤ num v * den rounded
  not_above A h =
      transfer (num rounded) (num v) (den rounded) (den v) (num rounded) (num v_rounded) (den rounded) (den v_rounded)
      (den_pos rounded) (den_pos v_rounded) refl unchanged
      (rw (round_num f s a c, round_den f s a c) (plain_order f a c (num v) (den v) C (den_pos v) A no_overflow h))

  pub round_at_least : T (finite rounded) → num v * c ≤ a * den v → num v * den rounded ≤ num rounded * den v
  round_at_least t h =
      transfer (num v) (num rounded) (den v) (den rounded) (num v_rounded) (num rounded) (den v_rounded) (den rounded)
      (den_pos v_rounded) (den_pos rounded) unchanged refl
      (rw (round_num f s a c, round_den f s a c) (plain_order f (num v) (den v) a c (den_pos v) C no_overflow (round_under f s a c t) h))

-- r has the sign s, and a magnitude of at most v
pub record AtMost (s : Bool) (v r : Float) : Type 0 where
  pub is_finite_lem : T (finite r)
  pub sign : is_sign_minus r ≡ s
  pub bound : num r * den v ≤ num v * den r

pub round_at_most : (f : Format) (s : Bool) (a c : ℕ) (v : Float) → 0 < c → T (fits f v) → T (finite v) → a * den v ≤ num v * c
    → AtMost s v (round f s a c)
round_at_most f s a c v C F p h =
    let under : grid f a c < overflow f = grid_under f a c v C F p h in
    let value = round_value f s a c under in
    record {
      is_finite_lem = has_finite (round f s a c) s (grid f a c) (2 ^ low f) value;
      sign = has_sign (round f s a c) s (grid f a c) (2 ^ low f) value;
      bound = not_above f s a c v C F p under h;
    }

-- as a comparison
pub at_most_le : (v r : Float) → T (finite v) → is_sign_minus v ≡ false → AtMost false v r → T (le r v)
at_most_le v r p s h =
    le_of_values r v (num r) (den r) (num v) (den v) (den_pos r) (den_pos v)
    (of_cross r false (num r) (den r) h.is_finite_lem h.sign refl) (of_cross v false (num v) (den v) p s refl) h.bound

-- ---- the largest finite value, 2 ^ 53 - 1 times 2 ^ 971
most_units : (q k : ℕ) → q < 2 ^ 53 → q * 2 ^ k < 2 ^ 2098 → q * 2 ^ k ≤ 9007199254740991 * 2 ^ 2045
most_units q k h g = elim (lt_or_le k 2045) [
  | inl l ↦ mul-le-mul (less q (2 ^ 53) h) (pow_mono (le_of_lt l))
  | inr l ↦
      let e : q * 2 ^ (k - 2045) * 2 ^ 2045 ≡ q * 2 ^ k =
      mul_assoc q (2 ^ (k - 2045)) (2 ^ 2045) ∙ ap (λ (z : ℕ). q * z) (pow_split (k - 2045) 2045 k (omega arith)) in
      le_trans (le_of_eq (sym e)) (mul-le-mul_right (2 ^ 2045) (less _ (2 ^ 53) (lt_of_mul-lt-mul_right (2 ^ 2045) (lt_of_le_of_lt (le_of_eq e) g))))
]
  where
    less : (q c : ℕ) → q < c → q ≤ c - 1
    less q c h = omega arith

pub at_most_max : (x : Float) → T (fits binary64 x) → T (finite x) → is_sign_minus x ≡ false → T (le x max_finite)
unfolding of_bits
at_most_max x F p s =
    let o = representable binary64 x F p in
    let n = o.digits * 2 ^ o.place in
    let bound : num x * 1 ≤ 9007199254740991 * 2 ^ 971 * den x =
    le_of_mul-le-mul_right (le_trans (le_of_eq (ap (λ (z : ℕ). z * 2 ^ 1074) (mul-one (num x)) ∙ o.exact))
    (le_trans (mul-le-mul_right (den x) (most_units o.digits o.place o.few o.under)) (le_of_eq (scale (den x))))) (pow_pos 1074) in
    le_of_values x max_finite (num x) (den x) (9007199254740991 * 2 ^ 971) 1 (den_pos x) (pow_pos 0)
    (of_cross x false (num x) (den x) p s refl) (refl, refl) bound
  where
    scale : (d : ℕ) → 9007199254740991 * 2 ^ 2045 * d ≡ 9007199254740991 * 2 ^ 971 * d * 2 ^ 1074
    scale d =
        ap (λ (z : ℕ). 9007199254740991 * z * d) (sym (pow_split 971 1074 2045 refl))
        ∙ ap (λ (z : ℕ). z * d) (sym (mul_assoc 9007199254740991 (2 ^ 971) (2 ^ 1074)))
        ∙ mul_right_comm (9007199254740991 * 2 ^ 971) (2 ^ 1074) d

-- ---- what rounds to a zero, and what to an infinity
tie_zero : closest 1 2 ≡ 0
tie_zero = refl

no_digits : size 0 ≡ 0
unfolding size
no_digits = refl

zero_units : (s : Bool) → units binary64 s 0 0 ≡ fin s 0 (pos 0)
unfolding units
zero_units s = refl

pub round_to_zero : (s : Bool) (a c : ℕ) → a * 2 ^ 1075 < c → round binary64 s a c ≡ fin s 0 (pos 0)
round_to_zero s a c h =
    let n = a * 2 ^ 1074 in
    let twice : n * 2 < c = lt_of_le_of_lt (le_of_eq (mul_assoc a (2 ^ 1074) 2)) h in
    let none : drop 53 n c ≡ 0 = ap (λ (z : ℕ). size z - 53) (div-eq_of_lt (single n c twice)) ∙ ap (λ (z : ℕ). z - 53) no_digits in
    round_is binary64 s a c
    ∙ ap (λ (k : ℕ). units binary64 s (closest n (c * 2 ^ k)) k) none
    ∙ ap (λ (q : ℕ). units binary64 s q 0) (nothing n (c * 1) (subst (λ (z : ℕ). n * 2 < z) (sym (mul-one c)) twice))
    ∙ zero_units s
  where
    single : (n c : ℕ) → n * 2 < c → n < c
    single n c h = omega arith

    some : (n c : ℕ) → n * 2 < c → 0 < c
    some n c h = omega arith

    within : (n c : ℕ) → n * 2 < c → n * 2 ≤ 1 * c
    within n c h = omega arith

    nothing : (n c : ℕ) → n * 2 < c → closest n c ≡ 0
    nothing n c h = le_antisymm (le_trans (closest_mono n c 1 2 (some n c h) (pow_pos 1) (within n c h)) (le_of_eq tie_zero)) zero-le

inf_neg : neg (inf false) ≡ inf true
unfolding neg
inf_neg = refl

top : round binary64 false (2 ^ 1024) 1 ≡ inf false
unfolding round
top = refl

from_top : (z : Float) → T (le (inf false) z) → z ≡ inf false
unfolding le
from_top nan h = absurd h
from_top (inf true) h = absurd h
from_top (inf false) h = refl
from_top (fin s m e) h = absurd h

pub round_to_infinity : (s : Bool) (a c : ℕ) → 0 < c → 2 ^ 1024 * c ≤ a → round binary64 s a c ≡ inf s
round_to_infinity s a c C h = go s
  where
    plain : round binary64 false a c ≡ inf false
    plain =
        from_top (round binary64 false a c)
        (subst (λ (z : Float). T (le z (round binary64 false a c))) top
        (round_mono binary64 (2 ^ 1024) 1 a c (pow_pos 0) C (le_trans h (le_of_eq (sym (mul-one a))))))

    go : (s : Bool) → round binary64 s a c ≡ inf s
    go false = plain
    go true = round_neg binary64 false a c ∙ ap neg plain ∙ inf_neg
