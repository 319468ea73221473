-- Bounds of values: a rounded fraction passes no number of the format. Sizes in 64ths, whatever the sign, through sums, differences, products and
-- quotients. Assumes nothing.
use Rattle.std.specs.Prelude.{◌≡◌, ℕ, ◌+◌, ◌-◌, ◌*◌, ◌^◌, ◌<◌, ◌≤◌, Bool, true, false, cond, not, ◌&&◌, T, ◌⊎◌, nat_le, nat_lt, refl, Float}
use Rattle.std.proofs.Common.{sym, ap, ◌∙◌, subst, inl, inr, le_trans, le_of_eq, lt_of_lt_of_le, lt_of_le_of_lt, mul-one, one-mul, mul_assoc, mul-pos, mul-le-mul, mul-le-mul_left, mul-le-mul_right, arith, lt-ltb, le-ltb, leb→le, lit≤, pow-add, pow_pos, pow_mono, shl_lt}
use Rattle.std.specs.Bool.{beq}
use Rattle.std.proofs.Math.Pow.{pow-lt}
use Rattle.std.specs.Float.{inf, binary64}
use Rattle.std.specs.Float.Ieee.{odd, units, unlike, round, sum, sub, neg, fits}
use Rattle.std.specs.Float.Ieee.Digits.{back}
use Rattle.std.specs.Float.Ieee.Fits.{and_l, and_r, round_is, round-fits}
use Rattle.std.specs.Float.Ieee.Exact.{HasValue, odd_sign, round_exact}
use Rattle.std.specs.Float.Ieee.Order.{transfer, kept, drop as dropped}
use Rattle.std.specs.Float.Ieee.Scale.{finite, overflow}
use Rattle.std.specs.Float.Ieee.Positive.{num, den, den_pos, through}
use Rattle.arithmetic.specs.Operations.{◌⊕◌, ◌⊖◌, ◌⊗◌, ◌⊘◌}
use Rattle.arithmetic.specs.Basic.{is_sign_minus}
use Rattle.arithmetic.specs.Laws.Numbers.{lt_or_le}
use Rattle.arithmetic.specs.Laws.Times.{cross, has_finite, has_sign, neg_finite, neg_num, neg_den}
use Rattle.arithmetic.specs.Laws.Rounding.{round_value, round_under}
use Rattle.arithmetic.specs.Laws.Choices.{by_test}
use Rattle.arithmetic.specs.Laws.Sums.{add_is, difference_is}
use Rattle.arithmetic.specs.Laws.Products.{mul_is, div_is}
use Rattle.arithmetic.specs.Laws.ScaledRatios.{positive_zero}
use Rattle.arithmetic.specs.Laws.Bounds.{AtMost, round_at_most, round_at_least}

-- ---- a rounded fraction is finite, or the infinity of its sign
units_cases : (s : Bool) (q k : ℕ) → T (finite (units binary64 s q k)) ⊎ (units binary64 s q k ≡ inf s)
unfolding units
units_cases s q k = go (nat_lt (q * 2 ^ k) (overflow binary64))
  where
    go : (b : Bool) → T (finite (cond b (odd 54 s q k 1074) (inf s))) ⊎ (cond b (odd 54 s q k 1074) (inf s) ≡ inf s)
    go true = inl (has_finite (odd 54 s q k 1074) s (q * 2 ^ k) (2 ^ 1074) (odd_sign 54 s q k 1074))
    go false = inr refl

pub round_cases : (s : Bool) (a c : ℕ) → T (finite (round binary64 s a c)) ⊎ (round binary64 s a c ≡ inf s)
round_cases s a c =
    subst (λ (z : Float). T (finite z) ⊎ (z ≡ inf s)) (sym (round_is binary64 s a c))
    (units_cases s (kept 53 (a * 2 ^ 1074) c) (dropped 53 (a * 2 ^ 1074) c))

pub round_minus : (s : Bool) (a c : ℕ) → is_sign_minus (round binary64 s a c) ≡ s
round_minus s a c = elim (round_cases s a c) [
  | inl p ↦ has_sign (round binary64 s a c) s _ _ (round_value binary64 s a c (round_under binary64 s a c p))
  | inr e ↦ ap is_sign_minus e
]

-- ---- what is a value of the format
abbrev pub Held : ℕ → ℕ → Type 0
Held p q = HasValue (round binary64 false p q) false p q

pub grain : (s : Bool) (p j : ℕ) → p < 2 ^ 53 → j ≤ 1074 → HasValue (round binary64 s p (2 ^ j)) s p (2 ^ j)
grain s p j P J =
    round_exact binary64 s p (2 ^ j) p (1074 - j) (pow_pos j) P (lt_of_lt_of_le (shl_lt 53 (1074 - j) P) (pow_mono (small j)))
    (ap (λ (z : ℕ). p * 2 ^ z) (sym (back 1074 j J)) ∙ ap (λ (z : ℕ). p * z) (pow-add 2 (1074 - j) j) ∙ sym (mul_assoc p (2 ^ (1074 - j)) (2 ^ j)))
  where
    small : (j : ℕ) → 53 + (1074 - j) ≤ 2098
    small j = omega arith

pub grain_held : (p j : ℕ) → p < 2 ^ 53 → j ≤ 1074 → Held p (2 ^ j)
grain_held = grain false

pub power_held : (k : ℕ) → k ≤ 1023 → Held (2 ^ k) 1
power_held k h =
    let far : k + 1074 < 2098 = omega arith in
    round_exact binary64 false (2 ^ k) 1 1 (k + 1074) (pow_pos 0) (lit≤ tt)
    (lt_of_le_of_lt (le_of_eq (one-mul (2 ^ (k + 1074)))) (pow-lt far))
    (sym (mul-one (1 * 2 ^ (k + 1074)) ∙ one-mul (2 ^ (k + 1074)) ∙ pow-add 2 k 1074))

-- ---- a fraction that does not pass p / q is rounded to what does not
module _ (s : Bool) (a c p q : ℕ) (C : 0 < c) (Q : 0 < q) (G : Held p q) where
  abbrev r : Float
  r = round binary64 s a c

  abbrev v : Float
  v = round binary64 false p q

  v_is : num v * q ≡ p * den v
  v_is = cross v false p q G

  pub round_upper : a * q ≤ p * c → T (finite r) × (is_sign_minus r ≡ s) × (num r * q ≤ p * den r)
  round_upper h =
      let b : AtMost s v r =
      round_at_most binary64 s a c v C (round-fits binary64 false p q) (has_finite v false p q G) (transfer a (num v) c (den v) a p c q C Q refl v_is h) in
      (b.is_finite_lem, b.sign, transfer (num r) p (den r) q (num r) (num v) (den r) (den v) (den_pos r) (den_pos v) refl (sym v_is) b.bound)

  pub round_lower : T (finite r) → p * c ≤ a * q → p * den r ≤ num r * q
  round_lower t h =
      transfer p (num r) q (den r) (num v) (num r) (den v) (den r) (den_pos v) (den_pos r) (sym v_is) refl
      (round_at_least binary64 s a c v C (round-fits binary64 false p q) (has_finite v false p q G) t (transfer (num v) a (den v) c p a q c Q C v_is refl h))

-- ---- the size of a sum
abbrev pub apart_by : Bool → Bool → ℕ → ℕ → ℕ
apart_by s t a b = cond (beq s t) (a + b) (a - b + (b - a))

pub apart_le : (s t : Bool) (a b : ℕ) → apart_by s t a b ≤ a + b
apart_le true true a b = omega arith
apart_le false false a b = omega arith
apart_le true false a b = omega arith
apart_le false true a b = omega arith

pub sum_size : (s t : Bool) (a b c : ℕ) → (u : Bool) × (sum binary64 s a t b c ≡ round binary64 u (apart_by s t a b) c)
unfolding sum
sum_size true true a b c = (true, refl)
sum_size false false a b c = (false, refl)
sum_size true false a b c = go (lt_or_le a b)
  where
    go : (a < b) ⊎ (b ≤ a) → (u : Bool) × (sum binary64 true a false b c ≡ round binary64 u (a - b + (b - a)) c)
    go (inl h) = (false, rw (lt-ltb a b h) (ap (λ (z : ℕ). round binary64 false z c) (omega arith)))
    go (inr h) = (nat_lt b a, rw (le-ltb a b h) (ap (λ (z : ℕ). round binary64 (nat_lt b a) z c) (omega arith)))
sum_size false true a b c = go (lt_or_le a b)
  where
    go : (a < b) ⊎ (b ≤ a) → (u : Bool) × (sum binary64 false a true b c ≡ round binary64 u (a - b + (b - a)) c)
    go (inl h) = (true, rw (lt-ltb a b h) (ap (λ (z : ℕ). round binary64 true z c) (omega arith)))
    go (inr h) = (false, rw (le-ltb a b h) (ap (λ (z : ℕ). round binary64 false z c) (omega arith)))

pub sum_apart : (s : Bool) (a b c : ℕ) → (u : Bool) × (sum binary64 s a (not s) b c ≡ round binary64 u (a - b + (b - a)) c)
sum_apart true a b c = sum_size true false a b c
sum_apart false a b c = sum_size false true a b c

pub sum_alike : (s : Bool) (a b c : ℕ) → sum binary64 s a s b c ≡ round binary64 s (a + b) c
unfolding sum
sum_alike true a b c = refl
sum_alike false a b c = refl

pub sub_is : (x y : Float) → x ⊖ y ≡ x ⊕ neg y
unfolding sub
sub_is x y = refl

-- ---- sizes in 64ths
pub short : {p : ℕ} → p ≤ 200000 → p < 2 ^ 53
short h = lt_of_le_of_lt h (lit≤ tt)

pub record Size (a : ℕ) (x : Float) : Type 0 where
  pub is_finite_lem : T (finite x)
  pub bound : num x * 64 ≤ a * den x

pub size_round : (s : Bool) (n c a : ℕ) → 0 < c → a < 2 ^ 53 → n * 64 ≤ a * c → Size a (round binary64 s n c)
size_round s n c a C A h =
    let u = round_upper s n c a 64 C (pow_pos 6) (grain_held a 6 A (lit≤ tt)) h in
    record { is_finite_lem = u.0; bound = u.2 }

pub size_mul : {a b : ℕ} (c : ℕ) {x y : Float} → Size a x → Size b y → a * b ≤ 64 * c → c < 2 ^ 53 → Size c (x ⊗ y)
size_mul {a} {b} c {x} {y} h g l C =
    subst (Size c) (sym (mul_is binary64 x y h.is_finite_lem g.is_finite_lem))
    (size_round (unlike (is_sign_minus x) (is_sign_minus y)) (num x * num y) (den x * den y) c (mul-pos (den_pos x) (den_pos y)) C
    (less (num x) (num y) (den x) (den y) (mul-le-mul h.bound g.bound) (mul-le-mul_right (den x * den y) l)))
  where
    less : (n m d e : ℕ) → n * 64 * (m * 64) ≤ a * d * (b * e) → a * b * (d * e) ≤ 64 * c * (d * e) → n * m * 64 ≤ c * (d * e)
    less n m d e h g = omega arith

pub size_add : {a b : ℕ} {x y : Float} → Size a x → Size b y → a + b < 2 ^ 53 → Size (a + b) (x ⊕ y)
size_add {a} {b} {x} {y} h g C =
    let s = is_sign_minus x in
    let t = is_sign_minus y in
    let z = sum_size s t (num x * den y) (num y * den x) (den x * den y) in
    subst (Size (a + b)) (sym (add_is binary64 x y h.is_finite_lem g.is_finite_lem ∙ z.1))
    (size_round z.0 (apart_by s t (num x * den y) (num y * den x)) (den x * den y) (a + b) (mul-pos (den_pos x) (den_pos y)) C
    (less (num x) (num y) (den x) (den y) (apart_by s t (num x * den y) (num y * den x))
    (mul-le-mul_right (den y) h.bound) (mul-le-mul_right (den x) g.bound) (apart_le s t (num x * den y) (num y * den x))))
  where
    less : (n m d e z : ℕ) → n * 64 * e ≤ a * d * e → m * 64 * d ≤ b * e * d → z ≤ n * e + m * d → z * 64 ≤ (a + b) * (d * e)
    less n m d e z h g k = omega arith

pub size_neg : {a : ℕ} {x : Float} → Size a x → Size a (neg x)
size_neg {a} {x} h = record { is_finite_lem = neg_finite x h.is_finite_lem; bound = rw (neg_num x, neg_den x) h.bound }

pub size_sub : {a b : ℕ} {x y : Float} → Size a x → Size b y → a + b < 2 ^ 53 → Size (a + b) (x ⊖ y)
size_sub {a} {b} {x} {y} h g C = subst (Size (a + b)) (sym (sub_is x y)) (size_add h (size_neg g) C)

-- two values of one sign, each of a / 64 at most in size: so is their difference
pub size_apart : {a : ℕ} {x y : Float} → Size a x → Size a y → is_sign_minus y ≡ is_sign_minus x → a < 2 ^ 53 → Size a (x ⊖ y)
size_apart {a} {x} {y} h g e A =
    let s = is_sign_minus x in
    let z = sum_apart s (num x * den y) (num y * den x) (den x * den y) in
    subst (Size a) (sym (difference_is binary64 x y h.is_finite_lem g.is_finite_lem ∙ rw e z.1))
    (size_round z.0 (num x * den y - num y * den x + (num y * den x - num x * den y)) (den x * den y) a (mul-pos (den_pos x) (den_pos y)) A
    (less (num x) (num y) (den x) (den y) (mul-le-mul_right (den y) h.bound) (mul-le-mul_right (den x) g.bound)))
  where
    less : (n m d e : ℕ) → n * 64 * e ≤ a * d * e → m * 64 * d ≤ a * e * d → (n * e - m * d + (m * d - n * e)) * 64 ≤ a * (d * e)
    less n m d e h g = omega arith

pub size_widen : {a : ℕ} (b : ℕ) {x : Float} → Size a x → a ≤ b → Size b x
size_widen b {x} h l = record { is_finite_lem = h.is_finite_lem; bound = le_trans h.bound (mul-le-mul_right (den x) l) }

-- a quotient by what is 1 at least
pub size_div : {a : ℕ} {x : Float} (y : Float) → Size a x → a < 2 ^ 53 → T (finite y) → den y ≤ num y → Size a (x ⊘ y)
size_div {a} {x} y h A q g =
    let Y : 0 < num y = lt_of_lt_of_le (den_pos y) g in
    subst (Size a) (sym (div_is binary64 x y h.is_finite_lem q ∙ rw (positive_zero (num y) Y)))
    (size_round (unlike (is_sign_minus x) (is_sign_minus y)) (num x * den y) (num y * den x) a (mul-pos Y (den_pos x)) A
    (go (num x) (den x) (num y) (den y) (mul-le-mul_right (den y) h.bound) (mul-le-mul_left (a * den x) g)))
  where
    go : (n d m e : ℕ) → n * 64 * e ≤ a * d * e → a * d * e ≤ a * d * m → n * e * 64 ≤ a * (m * d)
    go n d m e h g = omega arith

-- ---- x is no larger than v in size; in the laws v is a value of the format
pub record NoLarger (v x : Float) : Type 0 where
  pub is_finite_lem : T (finite x)
  pub bound : num x * den v ≤ num v * den x

no_larger_round : (s : Bool) (a c : ℕ) (v : Float) → 0 < c → T (fits binary64 v) → T (finite v) → a * den v ≤ num v * c
    → NoLarger v (round binary64 s a c)
no_larger_round s a c v C F p h =
    let b = round_at_most binary64 s a c v C F p h in
    record { is_finite_lem = b.is_finite_lem; bound = b.bound }

pub no_larger_size : {a : ℕ} {v x : Float} → Size a v → NoLarger v x → Size a x
no_larger_size {a} {v} {x} h g = record {
  is_finite_lem = g.is_finite_lem;
  bound = through (num x) (num v) a (den x) (den v) 64 (den_pos v) g.bound h.bound;
}

-- a product with what is 1 at most in size
pub no_larger_mul : (v c : Float) → T (fits binary64 v) → T (finite v) → Size 64 c → NoLarger v (v ⊗ c)
no_larger_mul v c F p h =
    subst (NoLarger v) (sym (mul_is binary64 v c p h.is_finite_lem))
    (no_larger_round (unlike (is_sign_minus v) (is_sign_minus c)) (num v * num c) (den v * den c) v (mul-pos (den_pos v) (den_pos c)) F p
    (go (num v) (den v) (num c) (den c) (mul-le-mul_left (num v * den v) h.bound)))
  where
    go : (n d m e : ℕ) → n * d * (m * 64) ≤ n * d * (64 * e) → n * m * d ≤ n * (d * e)
    go n d m e h = omega arith

-- a quotient by what is 1 at least in size
pub no_larger_div : (v x y : Float) → T (fits binary64 v) → T (finite v) → NoLarger v x → T (finite y) → den y ≤ num y → NoLarger v (x ⊘ y)
no_larger_div v x y F p h q g =
    let Y : 0 < num y = lt_of_lt_of_le (den_pos y) g in
    subst (NoLarger v) (sym (div_is binary64 x y h.is_finite_lem q ∙ rw (positive_zero (num y) Y)))
    (no_larger_round (unlike (is_sign_minus x) (is_sign_minus y)) (num x * den y) (num y * den x) v (mul-pos Y (den_pos x)) F p
    (go (num x) (den x) (num v) (den v) (num y) (den y) (mul-le-mul_right (den y) h.bound) (mul-le-mul_left (num v * den x) g)))
  where
    go : (n d m e a b : ℕ) → n * e * b ≤ m * d * b → m * d * b ≤ m * d * a → n * b * e ≤ m * (a * d)
    go n d m e a b h g = omega arith

-- a zero less what is no larger
pub no_larger_zero : (v x z : Float) → T (fits binary64 v) → T (finite v) → NoLarger v x → T (finite z) → num z ≡ 0 → NoLarger v (z ⊖ x)
no_larger_zero v x z F p h q e =
    let s = is_sign_minus z in
    let t = not (is_sign_minus x) in
    let u = sum_size s t (num z * den x) (num x * den z) (den z * den x) in
    subst (NoLarger v) (sym (difference_is binary64 z x q h.is_finite_lem ∙ u.1))
    (no_larger_round u.0 (apart_by s t (num z * den x) (num x * den z)) (den z * den x) v (mul-pos (den_pos z) (den_pos x)) F p
    (go (num z) (den z) (num x) (den x) (num v) (den v) _ e (mul-le-mul_right (den z) h.bound)
    (mul-le-mul_right (den v) (apart_le s t (num z * den x) (num x * den z)))))
  where
    go : (n d m e a b r : ℕ) → n ≡ 0 → m * b * d ≤ a * e * d → r * b ≤ (n * e + m * d) * b → r * b ≤ a * (d * e)
    go n d m e a b r z h g = le_trans g (subst (λ (k : ℕ). (k * e + m * d) * b ≤ a * (d * e)) (sym z) (omega arith))

-- x less y, y with the sign - and no smaller than x in size: not negative
pub difference_plus : (x y : Float) → T (finite x) → T (finite y) → is_sign_minus y ≡ true → num x * den y ≤ num y * den x
    → is_sign_minus (x ⊖ y) ≡ false
unfolding sum
difference_plus x y p q t h =
    ap is_sign_minus (difference_is binary64 x y p q) ∙ rw t (go (is_sign_minus x) (num x * den y) (num y * den x) (den x * den y) h)
  where
    go : (s : Bool) (a b c : ℕ) → a ≤ b → is_sign_minus (sum binary64 s a false b c) ≡ false
    go false a b c h = round_minus false (a + b) c
    go true a b c h =
        by_test (λ (z : Float). is_sign_minus z ≡ false) (nat_lt a b) (λ e. round_minus false (b - a) c)
        (λ e. rw (le-ltb b a h) (round_minus false (a - b) c))

-- of a constant, by a test that is computed
abbrev pub size_test : ℕ → Float → Bool
size_test a x = finite x && nat_le (num x * 64) (a * den x)

pub size_of : (a : ℕ) (x : Float) → T (size_test a x) → Size a x
size_of a x t = record { is_finite_lem = and_l (finite x) _ t; bound = leb→le (num x * 64) (a * den x) (and_r (finite x) _ t) }
