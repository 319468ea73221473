-- The product of y by a value, and by 2 ^ k times that value: the second is exactly 2 ^ k times the first where both are finite and the first is above
-- 2 ^ -1022, or where both are 0; and so are the two quotients by a y above 0. What is at most 2 ^ -1022 rounds to no more, so a result above it was
-- rounded in the normal range. Assumes nothing.
use Rattle.std.specs.Prelude.{◌≡◌, ℕ, ◌*◌, ◌^◌, ◌<◌, ◌≤◌, Bool, true, false, cond, ◌||◌, T, ◌⊎◌, ◌==◌, Float}
use Rattle.std.proofs.Common.{sym, ap, ◌∙◌, subst, inl, inr, le_trans, le_of_eq, le_of_lt, one-mul, zero-mul, mul-one, mul_assoc, mul_comm, mul-pos, mul_left_comm, mul-le-mul_left, arith, eqb→eq, ltb→lt}
use Rattle.std.specs.Bool.{beq}
use Rattle.std.specs.Float.{nan, inf, fin, Format}
use Rattle.std.specs.Float.Ieee.{binary64, unlike, below, round, mul, lt, eq, fits, of_bits}
use Rattle.std.specs.Float.Ieee.Fits.{and_l}
use Rattle.std.specs.Float.Ieee.Scale.{finite, normal_of_fraction}
use Rattle.std.specs.Float.Ieee.Positive.{num, den, den_pos, positive}
use Rattle.arithmetic.specs.Operations.{◌⊗◌, ◌⊘◌, plus_zero, min_positive}
use Rattle.arithmetic.specs.Basic.{is_sign_minus}
use Rattle.arithmetic.specs.Laws.Numbers.{lt_or_le}
use Rattle.arithmetic.specs.Laws.Times.{Times, num_positive}
use Rattle.arithmetic.specs.Laws.Rounding.{Normal, round_times}
use Rattle.arithmetic.specs.Laws.Compare.{lt_is, eq_is}
use Rattle.arithmetic.specs.Laws.Products.{mul_is, product_ratio}
use Rattle.arithmetic.specs.Laws.Quotients.{over_positive}
use Rattle.arithmetic.specs.Laws.Bounds.{AtMost, round_at_most}
use Rattle.arithmetic.specs.Laws.Sizes.{round_minus}

-- a factor of a finite product is finite
factor_finite : (f : Format) (x y : Float) → T (finite (mul f x y)) → T (finite y)
unfolding mul
factor_finite f nan y h = absurd h
factor_finite f (inf s) nan h = absurd h
factor_finite f (inf s) (inf t) h = absurd h
factor_finite f (inf s) (fin t n d) h = tt
factor_finite f (fin s m e) nan h = absurd h
factor_finite f (fin s m e) (inf t) h = go (m == 0) h
  where
    go : (z : Bool) → T (finite (cond z nan (inf (unlike s t)))) → ⊥
    go true h = absurd h
    go false h = absurd h
factor_finite f (fin s m e) (fin t n d) h = tt

-- ---- a rounded fraction above 2 ^ -1022 was in the normal range
least_fits : T (fits binary64 min_positive)
unfolding fits of_bits
least_fits = tt

not_less : (s : Bool) (a b : ℕ) → b ≤ a → T (below false a s b) → ⊥
not_less false a b h t = let g = ltb→lt a b t in omega arith
not_less true a b h t = t

module _ (s : Bool) (a c : ℕ) (C : 0 < c) (p : T (finite (round binary64 s a c))) (h : T (lt min_positive (round binary64 s a c))) where
  abbrev rounded : Float
  rounded = round binary64 s a c

  not_below : a * 2 ^ 1022 ≤ 1 * c → ⊥
  unfolding of_bits
  not_below g =
      let b : AtMost s min_positive rounded = round_at_most binary64 s a c min_positive C least_fits tt g in
      not_less (is_sign_minus rounded) (1 * den rounded) (num rounded * 2 ^ 1022) b.bound (subst T (lt_is min_positive rounded tt p) h)

  pub above_normal : Normal binary64 a c
  above_normal = go (lt_or_le (a * 2 ^ 1022) c)
    where
      go : (a * 2 ^ 1022 < c) ⊎ (c ≤ a * 2 ^ 1022) → Normal binary64 a c
      go (inl g) = absurd (not_below (le_trans (le_of_lt g) (le_of_eq (sym (one-mul c)))))
      go (inr g) = normal_of_fraction binary64 a c C (le_trans (mul-le-mul_left (2 ^ 52) g) (le_of_eq (mul_left_comm (2 ^ 52) a (2 ^ 1022))))

-- ---- a value that equals 0
pub zero_num : (v : Float) → T (finite v) → T (eq v plus_zero) → num v ≡ 0
unfolding of_bits
zero_num v p h =
    let a = num v * 1 in
    let b = 0 * den v in
    sym (mul-one (num v))
    ∙ eqb→eq a b (and_l (a == b) (beq (is_sign_minus v) false || a == 0) (subst T (eq_is v plus_zero p tt) h))
    ∙ zero-mul (den v)

-- ---- a fraction, and 2 ^ k times it, rounded
module _ (s : Bool) (k a c a' c' : ℕ) (C : 0 < c) (C' : 0 < c') (e : a' * c ≡ a * (2 ^ k * c')) where
  abbrev smaller : Float
  smaller = round binary64 s a c

  abbrev larger : Float
  larger = round binary64 s a' c'

  rounded_times : T (finite smaller) → T (finite larger) → T (lt min_positive smaller) ⊎ (T (eq smaller plus_zero) × T (eq larger plus_zero))
      → Times k smaller larger
  rounded_times p p' (inl l) = round_times binary64 s k a c a' c' C C' e (inl (above_normal s a c C p l)) p'
  rounded_times p p' (inr (z, z')) = record {
    finite_l = p;
    finite_r = p';
    sign = round_minus s a' c' ∙ sym (round_minus s a c);
    value = rw (zero_num smaller p z, zero_num larger p' z', zero-mul (den smaller), zero-mul (2 ^ k), zero-mul (den larger));
  }

-- both are finite, and the first is above 2 ^ -1022 or both are 0
abbrev Scalable : Float → Float → Type 0
Scalable v v' = T (finite v) × T (finite v') × (T (lt min_positive v) ⊎ (T (eq v plus_zero) × T (eq v' plus_zero)))

scalable_times : (s : Bool) (k a c a' c' : ℕ) (v v' : Float) → v ≡ round binary64 s a c → v' ≡ round binary64 s a' c' → 0 < c → 0 < c'
    → a' * c ≡ a * (2 ^ k * c') → Scalable v v' → Times k v v'
scalable_times s k a c a' c' v v' i i' C C' e h =
    let (p, p', l) = subst (Scalable (round binary64 s a c)) i' (subst (λ (z : Float). Scalable z v') i h) in
    rw (i, i') (rounded_times s k a c a' c' C C' e p p' l)

-- quotients by one number, as fractions
pub over_ratio : (nx dx nx' dx' ny dy r : ℕ) → nx' * dx ≡ nx * r * dx' → nx' * dy * (ny * dx) ≡ nx * dy * (r * (ny * dx'))
over_ratio nx dx nx' dx' ny dy r e =
    (let i : nx' * dy * (ny * dx) ≡ nx' * dx * (ny * dy) = simp (mul_assoc, mul_comm, mul_left_comm) in i)
    ∙ ap (λ (z : ℕ). z * (ny * dy)) e
    ∙ (let i : nx * r * dx' * (ny * dy) ≡ nx * dy * (r * (ny * dx')) = simp (mul_assoc, mul_comm, mul_left_comm) in i)

module _ (k : ℕ) (x x' y : Float) (h : Times k x x') where
  -- ---- the product
  pub product_times : T (finite (x ⊗ y)) → T (finite (x' ⊗ y)) → T (lt min_positive (x ⊗ y)) ⊎ (T (eq (x ⊗ y) plus_zero) × T (eq (x' ⊗ y) plus_zero))
      → Times k (x ⊗ y) (x' ⊗ y)
  product_times p p' l =
      let q : T (finite y) = factor_finite binary64 x y p in
      scalable_times _ k _ _ _ _ (x ⊗ y) (x' ⊗ y) (mul_is binary64 x y h.finite_l q) (mul_is binary64 x' y h.finite_r q ∙ rw h.sign)
      (mul-pos (den_pos x) (den_pos y)) (mul-pos (den_pos x') (den_pos y))
      (product_ratio (num x) (den x) (num y) (den y) (num x') (den x') (num y) (den y) (2 ^ k) 1 (2 ^ k) (sym (mul-one (2 ^ k))) h.value
      (ap (λ (z : ℕ). z * den y) (sym (mul-one (num y))))) (p, p', l)

  -- ---- the quotient by a y above 0
  pub quotient_times : T (positive y) → T (finite (x ⊘ y)) → T (finite (x' ⊘ y))
      → T (lt min_positive (x ⊘ y)) ⊎ (T (eq (x ⊘ y) plus_zero) × T (eq (x' ⊘ y) plus_zero)) → Times k (x ⊘ y) (x' ⊘ y)
  quotient_times P p p' l =
      let some = num_positive y P in
      scalable_times _ k _ _ _ _ (x ⊘ y) (x' ⊘ y) (over_positive x y h.finite_l P) (over_positive x' y h.finite_r P ∙ rw h.sign)
      (mul-pos some (den_pos x)) (mul-pos some (den_pos x'))
      (over_ratio (num x) (den x) (num x') (den x') (num y) (den y) (2 ^ k) h.value) (p, p', l)
