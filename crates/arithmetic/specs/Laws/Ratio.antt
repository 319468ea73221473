-- Two pairs of numbers in one proportion: a' / a = b' / b = q / p. Their comparisons agree, and their sums and differences are in that proportion too.
-- Nothing here is about floats. Assumes nothing.
use Rattle.std.specs.Prelude.{◌≡◌, ℕ, ◌+◌, ◌-◌, ◌*◌, ◌<◌, ◌≤◌, T, ◌==◌, nat_le, nat_lt}
use Rattle.std.proofs.Common.{sym, ap, ◌∙◌, subst, zero-mul, mul_assoc, mul_comm, mul_left_comm, mul_right_comm, add-mul, mul-lt-mul_of_pos_right, lt_of_mul-lt-mul_right, le_of_mul-le-mul_right, mul-le-mul_right, leb→le, le→leb, eqb→eq}
use Rattle.std.proofs.Math.Nat.{eq_of_mul-eq-mul_right}
use Rattle.std.proofs.Math.Dec.{eqb_refl}
use Rattle.arithmetic.specs.Laws.Numbers.{same_test, same_ltb, sub_mul}

module _ (p q : ℕ) (P : 0 < p) (Q : 0 < q) where
  lt_onto : (a b a' b' p q : ℕ) → 0 < p → a' * p ≡ a * q → b' * p ≡ b * q → a' < b' → a < b
  lt_onto a b a' b' p q P e g h = lt_of_mul-lt-mul_right q (subst (λ (z : ℕ). a * q < z) g (subst (λ (z : ℕ). z < b' * p) e (mul-lt-mul_of_pos_right h P)))

  le_onto : (a b a' b' p q : ℕ) → 0 < q → a' * p ≡ a * q → b' * p ≡ b * q → a' ≤ b' → a ≤ b
  le_onto a b a' b' p q Q e g h = le_of_mul-le-mul_right (subst (λ (z : ℕ). a * q ≤ z) g (subst (λ (z : ℕ). z ≤ b' * p) e (mul-le-mul_right p h))) Q

  pub ltb_ratio : (a b a' b' : ℕ) → a' * p ≡ a * q → b' * p ≡ b * q → nat_lt a' b' ≡ nat_lt a b
  ltb_ratio a b a' b' e g = same_ltb a' b' a b (lt_onto a b a' b' p q P e g) (lt_onto a' b' a b q p Q (sym e) (sym g))

  pub leb_ratio : (a b a' b' : ℕ) → a' * p ≡ a * q → b' * p ≡ b * q → nat_le a' b' ≡ nat_le a b
  leb_ratio a b a' b' e g =
      same_test (nat_le a' b') (nat_le a b)
      (λ t. le→leb a b (le_onto a b a' b' p q Q e g (leb→le a' b' t)))
      (λ t. le→leb a' b' (le_onto a' b' a b q p P (sym e) (sym g) (leb→le a b t)))

  pub eqb_ratio : (a b a' b' : ℕ) → a' * p ≡ a * q → b' * p ≡ b * q → (a' == b') ≡ (a == b)
  eqb_ratio a b a' b' e g =
      same_test (a' == b') (a == b)
      (λ t. subst (λ (z : ℕ). T (a == z)) (eq_of_mul-eq-mul_right q Q a b (sym e ∙ ap (λ (z : ℕ). z * p) (eqb→eq a' b' t) ∙ g)) (eqb_refl a))
      (λ t. subst (λ (z : ℕ). T (a' == z)) (eq_of_mul-eq-mul_right p P a' b' (e ∙ ap (λ (z : ℕ). z * q) (eqb→eq a b t) ∙ sym g)) (eqb_refl a'))

pub zero_ratio : (p q : ℕ) → 0 * p ≡ 0 * q
zero_ratio p q = zero-mul p ∙ sym (zero-mul q)

pub add_ratio : (p q a b a' b' : ℕ) → a' * p ≡ a * q → b' * p ≡ b * q → (a' + b') * p ≡ (a + b) * q
add_ratio p q a b a' b' e g = rw (add-mul a' b' p, add-mul a b q, e, g)

pub sub_ratio : (p q a b a' b' : ℕ) → a' * p ≡ a * q → b' * p ≡ b * q → (a' - b') * p ≡ (a - b) * q
sub_ratio p q a b a' b' e g = rw (sub_mul a' b' p, sub_mul a b q, e, g)

-- two fractions that equal n / d are equal
pub same_fraction : (n d a c b l : ℕ) → 0 < d → n * c ≡ a * d → n * l ≡ b * d → a * l ≡ b * c
same_fraction n d a c b l D p q =
    eq_of_mul-eq-mul_right d D (a * l) (b * c)
    (mul_right_comm a l d ∙ ap (λ (z : ℕ). z * l) (sym p) ∙ mul_right_comm n c l ∙ ap (λ (z : ℕ). z * c) q ∙ mul_right_comm b d c)

-- nx / dx is g / l, and ny / dy is t times as much
pub scaled_cross : (nx dx ny dy g l t : ℕ) → 0 < l → nx * l ≡ g * dx → ny * l ≡ g * t * dy → ny * dx ≡ nx * t * dy
scaled_cross nx dx ny dy g l t L p q =
    eq_of_mul-eq-mul_right l L (ny * dx) (nx * t * dy)
    (mul_right_comm ny dx l
    ∙ ap (λ (z : ℕ). z * dx) q
    ∙ (let r : g * t * dy * dx ≡ g * dx * (t * dy) = simp (mul_assoc, mul_comm, mul_left_comm) in r)
    ∙ ap (λ (z : ℕ). z * (t * dy)) (sym p)
    ∙ (let r : nx * l * (t * dy) ≡ nx * t * dy * l = simp (mul_assoc, mul_comm, mul_left_comm) in r))
