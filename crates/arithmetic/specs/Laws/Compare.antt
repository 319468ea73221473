-- Comparisons of two values and of 2 ^ k times each agree; of two finite values one is at most the other, or is above it, and
-- what is above a value with the sign + is above 0; and three tests by which a value is no NaN. Assumes nothing.
use Rattle.std.specs.Prelude.{◌≡◌, ℕ, zero, suc, ◌+◌, ◌*◌, ◌^◌, ◌<◌, ◌≤◌, Bool, true, false, not, ◌&&◌, ◌||◌, T, ◌==◌, nat_lt, refl, Float}
use Rattle.std.proofs.Common.{sym, ap, ◌∙◌, inl, inr, mul_assoc, mul_comm, mul_left_comm, mul-pos, eq-or-lt_of_le, arith, lt-ltb, ltb-true, ne_eqb, true≢false, lt→ltb, ltb→lt, pow_pos}
use Rattle.std.proofs.Math.Bool.{or-true, and-false}
use Rattle.std.proofs.lemmas.Bool.{false≢true}
use Rattle.std.proofs.Math.Dec.{eqb-suc-zero, eqb-zero-suc, eqb_refl}
use Rattle.std.specs.Float.{nan, inf, fin}
use Rattle.std.specs.Float.Ieee.{up, down, below, level, lt, eq, le, ne, is_nan, of_bits}
use Rattle.std.specs.Float.Ieee.Bits.{is_true}
use Rattle.std.specs.Float.Ieee.Compare.{nan_differs}
use Rattle.std.specs.Float.Ieee.Scale.{finite}
use Rattle.std.specs.Float.Ieee.Positive.{num, den, den_pos, positive, first_pos}
use Rattle.arithmetic.specs.Laws.Numbers.{lt_or_le}
use Rattle.arithmetic.specs.Laws.Choices.{refuted}
use Rattle.arithmetic.specs.Operations.{plus_zero}
use Rattle.arithmetic.specs.Laws.Ratio.{ltb_ratio, eqb_ratio, zero_ratio, add_ratio}
use Rattle.arithmetic.specs.Basic.{is_sign_minus}
use Rattle.arithmetic.specs.Laws.Times.{Times, both_finite}

-- ---- over common denominators two values x, y and 2 ^ k times each are in the proportion of den x * den y to 2 ^ k * (den x' * den y')
pub cross_left : (nx dx nx' dx' dy dy' t : ℕ) → nx' * dx ≡ nx * t * dx' → nx' * dy' * (dx * dy) ≡ nx * dy * (t * (dx' * dy'))
cross_left nx dx nx' dx' dy dy' t e =
    (let r : nx' * dy' * (dx * dy) ≡ nx' * dx * (dy * dy') = simp (mul_assoc, mul_comm, mul_left_comm) in r)
    ∙ ap (λ (z : ℕ). z * (dy * dy')) e
    ∙ (let r : nx * t * dx' * (dy * dy') ≡ nx * dy * (t * (dx' * dy')) = simp (mul_assoc, mul_comm, mul_left_comm) in r)

pub left_ratio : (k : ℕ) (x y x' y' : Float) → Times k x x' → num x' * den y' * (den x * den y) ≡ num x * den y * (2 ^ k * (den x' * den y'))
left_ratio k x y x' y' h = cross_left (num x) (den x) (num x') (den x') (den y) (den y') (2 ^ k) h.value

pub right_ratio : (k : ℕ) (x y x' y' : Float) → Times k y y' → num y' * den x' * (den x * den y) ≡ num y * den x * (2 ^ k * (den x' * den y'))
right_ratio k x y x' y' h =
    ap (λ (z : ℕ). num y' * den x' * z) (mul_comm (den x) (den y))
    ∙ left_ratio k y x y' x' h
    ∙ ap (λ (z : ℕ). num y * den x * (2 ^ k * z)) (mul_comm (den y') (den x'))

-- ---- the comparisons, by sign and fraction
pub lt_is : (x y : Float) → T (finite x) → T (finite y) → lt x y ≡ below (is_sign_minus x) (num x * den y) (is_sign_minus y) (num y * den x)
unfolding lt
lt_is = both_finite _ (λ s m e t n d. refl)

pub eq_is : (x y : Float) → T (finite x) → T (finite y) → eq x y ≡ level (is_sign_minus x) (num x * den y) (is_sign_minus y) (num y * den x)
unfolding eq
eq_is = both_finite _ (λ s m e t n d. refl)

below_ratio : (p q : ℕ) → 0 < p → 0 < q → (s t : Bool) (a b a' b' : ℕ) → a' * p ≡ a * q → b' * p ≡ b * q → below s a' t b' ≡ below s a t b
below_ratio p q P Q false false a b a' b' e g = ltb_ratio p q P Q a b a' b' e g
below_ratio p q P Q false true a b a' b' e g = refl
below_ratio p q P Q true false a b a' b' e g = ltb_ratio p q P Q 0 (a + b) 0 (a' + b') (zero_ratio p q) (add_ratio p q a b a' b' e g)
below_ratio p q P Q true true a b a' b' e g = ltb_ratio p q P Q b a b' a' g e

level_ratio : (p q : ℕ) → 0 < p → 0 < q → (s t : Bool) (a b a' b' : ℕ) → a' * p ≡ a * q → b' * p ≡ b * q → level s a' t b' ≡ level s a t b
level_ratio p q P Q s t a b a' b' e g = rw (eqb_ratio p q P Q a b a' b' e g, eqb_ratio p q P Q a 0 a' 0 e (zero_ratio p q))

-- ---- comparisons of x and y, and of 2 ^ k times each
module _ (k : ℕ) (x y x' y' : Float) (h : Times k x x') (g : Times k y y') where
  D : 0 < den x * den y
  D = mul-pos (den_pos x) (den_pos y)

  D' : 0 < 2 ^ k * (den x' * den y')
  D' = mul-pos (pow_pos k) (mul-pos (den_pos x') (den_pos y'))

  pub lt_times : lt x' y' ≡ lt x y
  lt_times =
      rw (lt_is x' y' h.finite_r g.finite_r, lt_is x y h.finite_l g.finite_l, h.sign, g.sign)
      (below_ratio (den x * den y) (2 ^ k * (den x' * den y')) D D' (is_sign_minus x) (is_sign_minus y)
      (num x * den y) (num y * den x) (num x' * den y') (num y' * den x') (left_ratio k x y x' y' h) (right_ratio k x y x' y' g))

  pub eq_times : eq x' y' ≡ eq x y
  eq_times =
      rw (eq_is x' y' h.finite_r g.finite_r, eq_is x y h.finite_l g.finite_l, h.sign, g.sign)
      (level_ratio (den x * den y) (2 ^ k * (den x' * den y')) D D' (is_sign_minus x) (is_sign_minus y)
      (num x * den y) (num y * den x) (num x' * den y') (num y' * den x') (left_ratio k x y x' y' h) (right_ratio k x y x' y' g))

  pub le_times : le x' y' ≡ le x y
  unfolding le
  le_times = rw (lt_times, eq_times)

-- ---- of two finite values, y is below x where x is not at most y
self_equal : (a b : ℕ) → a ≡ b → (a == b) ≡ true
self_equal a b e = rw e (is_true (b == b) (eqb_refl b))

at_most_test : (a b : ℕ) (c : Bool) → (a ≡ b → c ≡ true) → a ≤ b → (nat_lt a b || c && true) ≡ true
at_most_test a b c f h = elim (eq-or-lt_of_le h) [ inl e ↦ rw (f e) (or-true (nat_lt a b)) | inr l ↦ rw (lt-ltb a b l) refl ]

not_at_most : (s t : Bool) (a b : ℕ) → (below s a t b || level s a t b) ≡ false → below t b s a ≡ true
not_at_most false false a b h =
    elim (lt_or_le b a) [ inl l ↦ lt-ltb b a l | inr l ↦ absurd (true≢false (sym (at_most_test a b (a == b) (self_equal a b) l) ∙ h)) ]
not_at_most true true a b h =
    elim (lt_or_le a b) [ inl l ↦ lt-ltb a b l | inr l ↦ absurd (true≢false (sym (at_most_test b a (a == b) (λ e. self_equal a b (sym e)) l) ∙ h)) ]
not_at_most false true zero zero h = absurd (true≢false h)
not_at_most false true (suc a) b h = lt-ltb 0 (b + suc a) (omega arith)
not_at_most false true zero (suc b) h = lt-ltb 0 (suc b + 0) (omega arith)
not_at_most true false zero zero h = absurd (true≢false h)
not_at_most true false (suc a) b h = absurd (true≢false (sym (rw (lt-ltb 0 (suc a + b) (omega arith)) refl) ∙ h))
not_at_most true false zero (suc b) h = absurd (true≢false (sym (rw (lt-ltb 0 (0 + suc b) (omega arith)) refl) ∙ h))

pub not_le : (x y : Float) → T (finite x) → T (finite y) → le x y ≡ false → lt y x ≡ true
unfolding le
not_le x y p q h =
    lt_is y x q p
    ∙ not_at_most (is_sign_minus x) (is_sign_minus y) (num x * den y) (num y * den x) (sym (rw (lt_is x y p q, eq_is x y p q) refl) ∙ h)

at_most_not : (s t : Bool) (a b : ℕ) → below t b s a ≡ true → (below s a t b || level s a t b) ≡ false
at_most_not false false a b h =
    let l = ltb-true b a h in
    rw (refuted (nat_lt a b) (λ u. omega (arith, ltb→lt a b u)), ne_eqb a b (λ (e : a ≡ b). omega arith))
at_most_not true true a b h =
    let l = ltb-true a b h in
    rw (ne_eqb a b (λ (e : a ≡ b). omega arith), refuted (nat_lt b a) (λ u. omega (arith, ltb→lt b a u)))
at_most_not false true zero zero h = absurd (false≢true h)
at_most_not false true (suc a) b h = rw (eqb-suc-zero a) (and-false (suc a == b))
at_most_not false true zero (suc b) h = rw (eqb-zero-suc b)
at_most_not true false a b h = absurd (false≢true h)

pub lt_not_le : (x y : Float) → T (finite x) → T (finite y) → lt x y ≡ true → le y x ≡ false
unfolding le
lt_not_le x y p q h =
    rw (lt_is y x q p, eq_is y x q p)
    (at_most_not (is_sign_minus y) (is_sign_minus x) (num y * den x) (num x * den y) (sym (lt_is x y p q) ∙ h))

pub lt_is_not_le : (x y : Float) → T (finite x) → T (finite y) → lt x y ≡ not (le y x)
lt_is_not_le x y p q = go (lt x y) (le y x) (lt_not_le x y p q) (not_le y x q p)
  where
    go : (u v : Bool) → (u ≡ true → v ≡ false) → (v ≡ false → u ≡ true) → u ≡ not v
    go true v f g = rw (f refl)
    go false true f g = refl
    go false false f g = g refl

-- what is above a value that is not negative is above 0
pub lt_positive : (x y : Float) → T (finite x) → is_sign_minus x ≡ false → T (finite y) → lt x y ≡ true → T (positive y)
lt_positive x nan p s q h = absurd q
lt_positive x (inf t) p s q h = absurd q
lt_positive x (fin true m e) p s q h = absurd (false≢true (sym (lt_is x (fin true m e) p q ∙ rw s refl) ∙ h))
lt_positive x (fin false m e) p s q h =
    let l : num x * down e < m * up e * den x = ltb-true (num x * down e) (m * up e * den x) (sym (lt_is x (fin false m e) p q ∙ rw s refl) ∙ h) in
    lt→ltb 0 m (first_pos m (up e) (first_pos (m * up e) (den x) (omega arith)))

-- a finite value that is above 0, or not at most 0, or neither below nor equal to it
pub above_zero : (x : Float) → T (finite x) → lt plus_zero x ≡ true → T (positive x)
unfolding of_bits
above_zero x p h = lt_positive plus_zero x tt refl p h

pub not_le_zero : (x : Float) → T (finite x) → le x plus_zero ≡ false → T (positive x)
unfolding of_bits
not_le_zero x p h = above_zero x p (not_le x plus_zero p tt h)

pub neither_zero : (x : Float) → T (finite x) → lt x plus_zero ≡ false → eq x plus_zero ≡ false → T (positive x)
unfolding le
neither_zero x p l e = not_le_zero x p (rw (l, e) refl)

-- ---- tests by which x is no NaN
pub finite_no_nan : (x : Float) → T (finite x) → is_nan x ≡ false
unfolding is_nan
finite_no_nan nan p = absurd p
finite_no_nan (inf s) p = refl
finite_no_nan (fin s m e) p = refl

pub is_no_nan : (x : Float) → ne x x ≡ false → is_nan x ≡ false
unfolding is_nan
is_no_nan nan h = absurd (true≢false (sym nan_differs ∙ h))
is_no_nan (inf s) h = refl
is_no_nan (fin s m e) h = refl
