-- The log-moneyness of two finite prices above 0, subnormal ones included, is finite, and 2 ^ 11 at most in size. Assumes nothing.
use Rattle.std.specs.Prelude.{◌≡◌, Bool, true, false, cond, ℕ, zero, suc, ◌+◌, ◌-◌, ◌*◌, ◌^◌, ◌≤◌, ◌<◌, T, ltb, Float}
use Rattle.std.proofs.Math.Path.{refl}
use Rattle.std.proofs.Common.{sym, ap, ◌∙◌, subst, inl, inr, zero-le, le_trans, le_of_eq, le_of_lt, lt_of_le_of_lt, mul-one, one-mul, mul_assoc, mul_comm, mul_right_comm, mul-pos, mul-le-mul_left, mul-le-mul_right, pow-suc, sub-le, arith, lit≤, pow_pos, pow_mono}
use borrow.Author.Tests.{le-ltb, ltb-true, ltb-false}
use Rattle.std.specs.Float.Ieee.{binary64, round, sum, neg, lt, le, fits, of_bits}
use Rattle.std.specs.Float.Ieee.Fits.{div-fits}
use Rattle.std.specs.Float.Ieee.Exact.{HasValue, round_exact}
use Rattle.std.specs.Float.Ieee.Order.{transfer}
use Rattle.std.specs.Float.Ieee.Scale.{finite, round_same}
use Rattle.std.specs.Float.Ieee.Positive.{num, den, den_pos, positive, positive-finite, first_pos}
use Rattle.arithmetic.specs.Operations.{◌⊖◌, ◌⊗◌, ◌⊘◌, half, min_positive}
use Rattle.arithmetic.specs.Basic.{is_sign_minus, takes_first_by, max, min}
use Rattle.arithmetic.specs.Ln.{ln, ln1p}
use Rattle.arithmetic.specs.Laws.Choices.{by_test}
use Rattle.arithmetic.specs.Laws.Numbers.{lt_or_le}
use Rattle.arithmetic.specs.Laws.Ratio.{sub_ratio}
use Rattle.arithmetic.specs.Laws.Times.{cross, has_finite, has_sign, num_positive, positive_sign}
use Rattle.arithmetic.specs.Laws.Compare.{lt_is}
use Rattle.arithmetic.specs.Laws.Extremes.{max_is, min_is}
use Rattle.arithmetic.specs.Laws.Sums.{difference_is}
use Rattle.arithmetic.specs.Laws.Products.{mul_is, div_is}
use Rattle.arithmetic.specs.Laws.Representable.{representable, Representable}
use Rattle.arithmetic.specs.Laws.Bounds.{AtMost, round_at_most, le_cross}
use Rattle.arithmetic.specs.Laws.ScaledRatios.{positive_zero, normal_positive}
use Rattle.bs_option_price.specs.BsOptionPrice.{negative_abs_log_moneyness}
use Rattle.arithmetic.specs.Laws.Sizes.{grain, grain_held, round_upper, round_lower}
use Rattle.arithmetic.specs.Laws.PowerBounds.{Small, small_widen, small_neg, small_sub}
use Rattle.arithmetic.specs.Laws.LnBounds.{ln_small, Excess, ln1p_small}

-- a finite value of binary64 above 0, as a forward and a strike are
pub record PositiveValue (x : Float) : Type 0 where
  pub above : T (positive x)
  pub held : T (fits binary64 x)

half_parts : (num half ≡ 1) × (den half ≡ 2) × (is_sign_minus half ≡ false) × T (finite half)
unfolding of_bits
half_parts = (refl, refl, refl, tt)

-- 3 / 2 of the smallest value is 2 of them, at a tie
two_units : HasValue (round binary64 false 3 (2 * 2 ^ 1074)) false 2 (2 ^ 1074)
unfolding round
two_units = (refl, refl)

-- ---- a smaller and a larger price
module _ (s l : Float) (S : PositiveValue s) (L : PositiveValue l) (order : num s * den l ≤ num l * den s) where
  p : T (finite s)
  p = positive-finite s S.above

  q : T (finite l)
  q = positive-finite l L.above

  s_sign : is_sign_minus s ≡ false
  s_sign = positive_sign s S.above

  l_sign : is_sign_minus l ≡ false
  l_sign = positive_sign l L.above

  some : 0 < num s
  some = num_positive s S.above

  half_is : half ⊗ l ≡ round binary64 false (1 * num l) (2 * den l)
  half_is = mul_is binary64 half l half_parts.3 q ∙ rw (half_parts.0, half_parts.1, half_parts.2, l_sign) refl

  less_is : l ⊖ s ≡ round binary64 false (num l * den s - num s * den l) (den l * den s)
  unfolding sum
  less_is =
      difference_is binary64 l s q p ∙ rw (s_sign, l_sign, le-ltb (num l * den s) (num s * den l) order) refl

  -- it is 1 times l at most
  z_at_most : AtMost false l (half ⊗ l)
  z_at_most =
      subst (AtMost false l) (sym half_is)
      (round_at_most binary64 false (1 * num l) (2 * den l) l (mul-pos (pow_pos 1) (den_pos l)) L.held q (go (num l) (den l)))
    where
      go : (n d : ℕ) → 1 * n * d ≤ n * (2 * d)
      go n d = omega arith

  z_finite : T (finite (half ⊗ l))
  z_finite = z_at_most.is_finite_lem

  z_sign : is_sign_minus (half ⊗ l) ≡ false
  z_sign = z_at_most.sign

  -- from a bound of the difference
  excess_of : T (finite (l ⊖ s)) → is_sign_minus (l ⊖ s) ≡ false → 2 * num (l ⊖ s) * den s ≤ 3 * num s * den (l ⊖ s) → Excess ((l ⊖ s) ⊘ s)
  excess_of f g h =
      let d = l ⊖ s in
      let is : d ⊘ s ≡ round binary64 false (num d * den s) (num s * den d) = div_is binary64 d s f p ∙ rw (positive_zero (num s) some, g, s_sign) refl in
      let u = round_upper false (num d * den s) (num s * den d) 3 2 (mul-pos some (den_pos d)) (pow_pos 1) (grain_held 3 1 (lit≤ tt) (lit≤ tt))
      (go (num d) (den d) (num s) (den s) h) in
      subst Excess (sym is) (record { is_finite_lem = u.0; sign = u.1; bound = u.2 })
    where
      go : (n d m e : ℕ) → 2 * n * e ≤ 3 * m * d → n * e * 2 ≤ 3 * (m * d)
      go n d m e h = omega arith

  module _ (test : T (le (half ⊗ l) s)) where
    abbrev z : Float
    z = half ⊗ l

    abbrev l_as : Representable binary64 l
    l_as = representable binary64 l L.held q

    abbrev s_as : Representable binary64 s
    s_as = representable binary64 s S.held p

    under_s : num z * den s ≤ num s * den z
    under_s = le_cross z s z_finite p z_sign s_sign test

    -- the half is exact
    exact_half : (j : ℕ) → l_as.place ≡ suc j → Excess ((l ⊖ s) ⊘ s)
    exact_half j e =
        let D = l_as.digits in
        let near : j ≤ l_as.place = omega arith in
        let v : HasValue (round binary64 false (1 * num l) (2 * den l)) false (1 * num l) (2 * den l) =
        round_exact binary64 false (1 * num l) (2 * den l) D j (mul-pos (pow_pos 1) (den_pos l)) l_as.few
        (lt_of_le_of_lt (mul-le-mul_left D (pow_mono near)) l_as.under)
        (ap (λ (y : ℕ). y * 2 ^ 1074) (one-mul (num l))
        ∙ l_as.exact
        ∙ ap (λ (k : ℕ). D * 2 ^ k * den l) e
        ∙ ap (λ (y : ℕ). D * y * den l) (pow-suc 2 j)
        ∙ regroup D (2 ^ j) (den l)) in
        let c : num z * (2 * den l) ≡ 1 * num l * den z = subst (λ (y : Float). num y * (2 * den l) ≡ 1 * num l * den y) (sym half_is)
        (cross (round binary64 false (1 * num l) (2 * den l)) false (1 * num l) (2 * den l) v) in
        let twice : 1 * num l * den s ≤ num s * (2 * den l) =
        transfer (1 * num l) (num s) (2 * den l) (den s) (num z) (num s) (den z) (den s) (den_pos z) (den_pos s) (sym c) refl under_s in
        let b : AtMost false s (l ⊖ s) =
        subst (AtMost false s) (sym less_is)
        (round_at_most binary64 false (num l * den s - num s * den l) (den l * den s) s (mul-pos (den_pos l) (den_pos s)) S.held p
        (le_trans (mul-le-mul_right (den s) (rest (num l) (den l) (num s) (den s) twice)) (le_of_eq (mul_assoc (num s) (den l) (den s))))) in
        excess_of b.is_finite_lem b.sign (wide (num (l ⊖ s)) (den (l ⊖ s)) (num s) (den s) b.bound)
      where
        regroup : (D P d : ℕ) → D * (P * 2) * d ≡ D * P * (2 * d)
        regroup D P d = omega arith

        rest : (n d m e : ℕ) → 1 * n * e ≤ m * (2 * d) → n * e - m * d ≤ m * d
        rest n d m e h = omega arith

        wide : (n d m e : ℕ) → n * e ≤ m * d → 2 * n * e ≤ 3 * m * d
        wide n d m e h = omega arith

    -- l is of the smallest values, A of them, and s is B of them
    abbrev A : ℕ
    A = l_as.digits

    abbrev B : ℕ
    B = s_as.digits * 2 ^ s_as.place

    module _ (e : l_as.place ≡ 0) where
      l_units : num l * 2 ^ 1074 ≡ A * den l
      l_units = l_as.exact ∙ ap (λ (k : ℕ). A * 2 ^ k * den l) e ∙ ap (λ (y : ℕ). y * den l) (mul-one A)

      s_units : num s * 2 ^ 1074 ≡ B * den s
      s_units = s_as.exact

      B-pos : 0 < B
      B-pos = first_pos B (den s) (subst (λ (y : ℕ). 0 < y) s_units (mul-pos some (pow_pos 1074)))

      z_is : z ≡ round binary64 false A (2 * 2 ^ 1074)
      z_is =
          half_is
          ∙ round_same binary64 false (1 * num l) (2 * den l) A (2 * 2 ^ 1074) (mul-pos (pow_pos 1) (den_pos l)) (mul-pos (pow_pos 1) (pow_pos 1074))
          (go (num l) (den l) (2 ^ 1074) l_units)
        where
          go : (n d U : ℕ) → n * U ≡ A * d → 1 * n * (2 * U) ≡ A * (2 * d)
          go n d U e = omega arith

      z_units : num z * 2 ^ 1074 ≤ B * den z
      z_units = transfer (num z) B (den z) (2 ^ 1074) (num z) (num s) (den z) (den s) (den_pos z) (den_pos s) refl (sym s_units) under_s

      -- a number P of the smallest values that is half of l at most
      z_least : (P : ℕ) → P < 2 ^ 53 → 2 * P ≤ A → P * den z ≤ num z * 2 ^ 1074
      z_least P h g =
          subst (λ (y : Float). P * den y ≤ num y * 2 ^ 1074) (sym z_is)
          (round_lower false A (2 * 2 ^ 1074) P (2 ^ 1074) (mul-pos (pow_pos 1) (pow_pos 1074)) (pow_pos 1074) (grain_held P 1074 h (lit≤ tt))
          (subst (λ (y : Float). T (finite y)) z_is z_finite)
          (le_trans (le_of_eq (regroup P (2 ^ 1074))) (mul-le-mul_right (2 ^ 1074) g)))
        where
          regroup : (P U : ℕ) → P * (2 * U) ≡ 2 * P * U
          regroup P U = omega arith

      not_three : A ≡ 3 → B ≡ 1 → ⊥
      not_three a b =
          let r = round binary64 false 3 (2 * 2 ^ 1074) in
          let is : z ≡ r = z_is ∙ ap (λ (k : ℕ). round binary64 false k (2 * 2 ^ 1074)) a in
          let c : num z * 2 ^ 1074 ≡ 2 * den z = subst (λ (y : Float). num y * 2 ^ 1074 ≡ 2 * den y) (sym is) (cross r false 2 (2 ^ 1074) two_units) in
          over (num z * 2 ^ 1074) (den z) (den_pos z) c (subst (λ (k : ℕ). num z * 2 ^ 1074 ≤ k * den z) b z_units)
        where
          over : (x d : ℕ) → 0 < d → x ≡ 2 * d → x ≤ 1 * d → ⊥
          over x d D e h = omega arith

      bounded : 2 * A ≤ 5 * B
      bounded = elim (lt_or_le (5 * B) (2 * A)) [
        | inl h ↦ absurd (elim (lt_or_le A (2 * (B + 1))) [
          | inl k ↦ let b : 0 < B = B-pos in not_three (omega arith) (omega arith)
          | inr k ↦ let f : A < 2 ^ 53 = l_as.few in more (num z * 2 ^ 1074) (den z) (den_pos z) z_units (z_least (B + 1) (omega arith) k)
        ])
        | inr h ↦ h
      ]
        where
          more : (x d : ℕ) → 0 < d → x ≤ B * d → (B + 1) * d ≤ x → ⊥
          more x d D h g = omega arith

      d_is : HasValue (l ⊖ s) false (A - B) (2 ^ 1074)
      d_is =
          subst (λ (y : Float). HasValue y false (A - B) (2 ^ 1074))
          (sym (less_is
          ∙ round_same binary64 false (num l * den s - num s * den l) (den l * den s) (A - B) (2 ^ 1074) (mul-pos (den_pos l) (den_pos s)) (pow_pos 1074)
          (sub_ratio (2 ^ 1074) (den l * den s) A B (num l * den s) (num s * den l)
          (left (num l) (den s) (2 ^ 1074) ∙ ap (λ (y : ℕ). y * den s) l_units ∙ mul_assoc A (den l) (den s))
          (left (num s) (den l) (2 ^ 1074) ∙ ap (λ (y : ℕ). y * den l) s_units ∙ mul_assoc B (den s) (den l) ∙ ap (λ (y : ℕ). B * y)
          (mul_comm (den s) (den l))))))
          (grain false (A - B) 1074 (lt_of_le_of_lt (sub-le A B) l_as.few) (lit≤ tt))
        where
          left : (n d U : ℕ) → n * d * U ≡ n * U * d
          left n d U = mul_right_comm n d U

      of_units : Excess ((l ⊖ s) ⊘ s)
      of_units =
          let d = l ⊖ s in
          let b : 2 * A ≤ 5 * B = bounded in
          let fits_in : 2 * (A - B) ≤ 3 * B = omega arith in
          excess_of (has_finite d false (A - B) (2 ^ 1074) d_is) (has_sign d false (A - B) (2 ^ 1074) d_is)
          (transfer (2 * num d) (3 * num s) (den d) (den s) (2 * (A - B)) (3 * B) (2 ^ 1074) (2 ^ 1074) (pow_pos 1074) (pow_pos 1074)
          (times 2 (num d) (den d) (A - B) (2 ^ 1074) (cross d false (A - B) (2 ^ 1074) d_is)) (times 3 (num s) (den s) B (2 ^ 1074) s_units)
          (mul-le-mul_right (2 ^ 1074) fits_in))
        where
          times : (k n d a U : ℕ) → n * U ≡ a * d → k * n * U ≡ k * a * d
          times k n d a U e = mul_assoc k n U ∙ ap (λ (y : ℕ). k * y) e ∙ sym (mul_assoc k a d)

    excess : Excess ((l ⊖ s) ⊘ s)
    excess = go l_as.place refl
      where
        go : (k : ℕ) → l_as.place ≡ k → Excess ((l ⊖ s) ⊘ s)
        go zero e = of_units e
        go (suc j) e = exact_half j e

  -- ---- the logarithm of the smaller over the larger, as the definition takes it
  ratio_finite : T (finite (s ⊘ l))
  ratio_finite =
      let some_l : 0 < num l = num_positive l L.above in
      let is : s ⊘ l ≡ round binary64 false (num s * den l) (num l * den s) =
      div_is binary64 s l p q ∙ rw (positive_zero (num l) some_l, s_sign, l_sign) refl in
      subst (λ (y : Float). T (finite y)) (sym is)
      (round_upper false (num s * den l) (num l * den s) 1 1 (mul-pos some_l (den_pos s)) (pow_pos 0) (grain_held 1 0 (lit≤ tt) zero-le)
      (le_trans (le_of_eq (mul-one (num s * den l))) (le_trans order (le_of_eq (sym (one-mul (num l * den s))))))).0

  log_ratio_small : Small 11 (cond (le (half ⊗ l) s) (neg (ln1p ((l ⊖ s) ⊘ s))) (cond (le min_positive (s ⊘ l)) (ln (s ⊘ l)) (ln s ⊖ ln l)))
  log_ratio_small =
      by_test (Small 11) (le (half ⊗ l) s) (λ e. small_widen 11 (small_neg (ln1p_small _ (excess (subst T (sym e) tt)))) (lit≤ tt))
      (λ e. by_test (Small 11) (le min_positive (s ⊘ l))
      (λ g. small_widen 11
      (ln_small (s ⊘ l) (normal_positive (s ⊘ l) (record { held = div-fits binary64 s l; bounded = ratio_finite; large = subst T (sym g) tt }))
      (div-fits binary64 s l))
      (lit≤ tt))
      (λ g. small_sub (ln_small s S.above S.held) (ln_small l L.above L.held) (lit≤ tt)))

-- ---- the smaller and the larger of two
in_order : (P : Float → Float → Type 0) (x y : Float) → T (finite x) → T (finite y) → is_sign_minus x ≡ false → is_sign_minus y ≡ false
    → (num x * den y ≤ num y * den x → P x y) → (num y * den x ≤ num x * den y → P y x) → P (min x y) (max x y)
in_order P x y p q s t f g =
    rw (min_is x y p q, max_is x y p q, s) (go (lt x y) (lt y x) (λ e. f (le_of_lt (ltb-true a b (sym is ∙ e)))) (λ e. g (ltb-false a b (sym is ∙ e))))
  where
    a : ℕ
    a = num x * den y

    b : ℕ
    b = num y * den x

    is : lt x y ≡ ltb a b
    is = lt_is x y p q ∙ rw (s, t) refl

    go : (u v : Bool) → (u ≡ true → P x y) → (u ≡ false → P y x) → P (cond (takes_first_by u v false) y x) (cond (takes_first_by u v false) x y)
    go true v f g = f refl
    go false true f g = g refl
    go false false f g = g refl

pub log_moneyness_small : (f k : Float) → PositiveValue f → PositiveValue k → Small 11 (negative_abs_log_moneyness f k)
unfolding negative_abs_log_moneyness
log_moneyness_small f k F K =
    in_order (λ s l. Small 11 (cond (le (half ⊗ l) s) (neg (ln1p ((l ⊖ s) ⊘ s))) (cond (le min_positive (s ⊘ l)) (ln (s ⊘ l)) (ln s ⊖ ln l)))) f k
    (positive-finite f F.above) (positive-finite k K.above) (positive_sign f F.above) (positive_sign k K.above)
    (λ h. log_ratio_small f k F K h) (λ h. log_ratio_small k f K F h)
