-- The expansion for small t is finite where it answers: there |h| is 32 at most, 8 where h is above 0, and t is 4 at most. Assumes nothing.
use Rattle.std.specs.Prelude.{◌≡◌, ◌⊎◌, List, ◌∷◌, Bool, true, ◌&&◌, ◌||◌, ℕ, ◌+◌, ◌-◌, ◌*◌, ◌^◌, ◌≤◌, ◌<◌, T, ltb, eqb, length, Float}
use Rattle.std.proofs.Math.Path.{refl}
use Rattle.std.proofs.Common.{sym, ap, ◌∙◌, subst, inl, inr, true≢false, zero-le, mul_assoc, mul_comm, mul_left_comm, mul-le-mul_left, mul-lt-mul_of_pos_right, le_of_mul-le-mul_right, zero-mul, le_trans, le_of_eq, le_of_lt, mul-one, mul-pos, mul-le-mul_right, arith, eqb→eq, lit≤, pow_pos}
use Rattle.std.proofs.Math.Bool.{false, cond}
use borrow.Author.Tests.{lt-ltb, le-ltb, ltb-true, ltb-false}
use Rattle.std.specs.Float.Ieee.Fits.{and_l, and_r, down_pos}
use Rattle.std.specs.Float.{nan, inf, fin}
use Rattle.std.specs.Float.Ieee.{binary64, up, down, round, sum, add, div, neg, lt, le, fits, of_bits}
use Rattle.std.specs.Float.Ieee.Digits.{back}
use Rattle.std.specs.Float.Ieee.Exact.{HasValue}
use Rattle.std.specs.Float.Ieee.Scale.{finite}
use Rattle.std.specs.Float.Ieee.Positive.{num, den, den_pos}
use Rattle.arithmetic.specs.Operations.{◌⊕◌, ◌⊖◌, ◌⊗◌, ◌⊘◌, bits, plus_zero, half, one, two, frac1_sqrt2}
use Rattle.arithmetic.specs.Basic.{is_sign_minus, recip, mul_add2_sel}
use Rattle.arithmetic.specs.Laws.Choices.{in_both, by_test}
use Rattle.arithmetic.specs.Laws.Numbers.{lt_or_le}
use Rattle.arithmetic.specs.Laws.Compare.{lt_is}
use Rattle.arithmetic.specs.Laws.Times.{neg_sign}
use Rattle.arithmetic.specs.Laws.PowersOfTwo.{times_fraction}
use Rattle.arithmetic.specs.Laws.Sums.{add_is}
use Rattle.arithmetic.specs.Laws.Bounds.{round_at_most, round_order}
use Rattle.special_function.specs.Constants.{sqrt_pi_over2}
use Rattle.special_function.specs.Polynomial.{nested}
use Rattle.special_function.specs.ErrorFunction.{erfcx_cody}
use Rattle.bs_option_price.specs.BsOptionPrice.{tau, eta, is_region1, is_region2, y_prime_tail_expansion_rational_function_part_plus1, y_prime_middle, y_prime, b0}
use Rattle.bs_option_price.specs.BsOptionPrice.{b1, b2, b, b3, b4, b5, b6, small_t_expansion_of_scaled_normalised_black}
use Rattle.arithmetic.specs.Laws.Sizes.{sum_alike, grain_held, round_upper, round_lower, round_minus, round_cases}
use Rattle.arithmetic.specs.Laws.PowerBounds.{Small, small_widen, small_neg, small_mul, small_add, small_sub, small_div, Plus, plus_div, Between, between_add}
use Rattle.arithmetic.specs.Laws.PowerBounds.{between_square, alike_mul, small_test, small_of, between_of}
use Rattle.special_function.specs.Laws.PolynomialBounds.{each_small, each_between, Each, each_test, evaluate_small, evaluate_between, nested_small}
use Rattle.special_function.specs.Laws.PolynomialBounds.{nested_between}
use Rattle.special_function.specs.Laws.ErfcxBounds.{erfcx_small}
use Rattle.bs_option_price.specs.Laws.AsymptoticExpansion.{border, add_infinity}

-- ---- what is not below 0
pub plus_not_below : (z : Float) → is_sign_minus z ≡ false → lt z plus_zero ≡ false
unfolding lt of_bits
plus_not_below nan s = refl
plus_not_below (inf true) s = absurd (true≢false s)
plus_not_below (inf false) s = refl
plus_not_below (fin true m e) s = absurd (true≢false s)
plus_not_below (fin false m e) s = le-ltb (m * up e * 1) (0 * down e) (le_trans (le_of_eq (zero-mul (down e))) zero-le)

sum_sign : (s : Bool) (a b c : ℕ) → a ≤ b → (is_sign_minus (sum binary64 s a false b c) ≡ false) × (is_sign_minus (sum binary64 false b s a c) ≡ false)
unfolding sum
sum_sign false a b c h = (round_minus false (a + b) c, round_minus false (b + a) c)
sum_sign true a b c h = (rw (le-ltb b a h) (go (lt_or_le a b)), rw (le-ltb b a h) (round_minus false (b - a) c))
  where
    go : (a < b) ⊎ (b ≤ a) → is_sign_minus (cond (ltb a b) (round binary64 false (b - a) c) (round binary64 false (a - b) c)) ≡ false
    go k = in_both (λ (z : Float). is_sign_minus z ≡ false) (ltb a b) (round_minus false (b - a) c) (round_minus false (a - b) c)

-- a sum whose larger term has the sign +
right_not_below : (u v : Float) → T (finite u) → T (finite v) → is_sign_minus v ≡ false → num u * den v ≤ num v * den u → lt (u ⊕ v) plus_zero ≡ false
right_not_below u v p q s h =
    plus_not_below (u ⊕ v) (ap is_sign_minus (add_is binary64 u v p q) ∙ rw s (sum_sign (is_sign_minus u) (num u * den v) (num v * den u) (den u * den v) h).0)

left_not_below : (u v : Float) → T (finite u) → T (finite v) → is_sign_minus u ≡ false → num v * den u ≤ num u * den v → lt (u ⊕ v) plus_zero ≡ false
left_not_below u v p q s h =
    plus_not_below (u ⊕ v) (ap is_sign_minus (add_is binary64 u v p q) ∙ rw s (sum_sign (is_sign_minus v) (num v * den u) (num u * den v) (den u * den v) h).1)

-- ---- the test: h times c, which is 1385722962267845 / 2 ^ 55, plus t less tau, which is 3787060782393815 / 2 ^ 54
abbrev slope : Float
slope = neg half ⊘ eta

slope_value : HasValue slope false 1385722962267845 36028797018963968
unfolding div neg of_bits
slope_value = (refl, refl)

slope_times : (h : Float) → T (finite h) → h ⊗ slope ≡ round binary64 (is_sign_minus h) (num h * 1385722962267845) (den h * 36028797018963968)
slope_times h p = times_fraction h slope 1385722962267845 36028797018963968 p (lit≤ tt) (lit≤ tt) slope_value

slope_finite : (h : Float) → T (finite h) → T (fits binary64 h) → T (finite (h ⊗ slope))
slope_finite h p F =
    subst (λ (z : Float). T (finite z)) (sym (slope_times h p))
    (round_at_most binary64 (is_sign_minus h) (num h * 1385722962267845) (den h * 36028797018963968) h (mul-pos (den_pos h) (lit≤ tt)) F p
    (less (num h) (den h))).is_finite_lem
  where
    less : (n d : ℕ) → n * 1385722962267845 * d ≤ n * (d * 36028797018963968)
    less n d = omega arith

tau_parts : (num (neg tau) ≡ 3787060782393815) × (den (neg tau) ≡ 18014398509481984) × (is_sign_minus (neg tau) ≡ true) × T (finite (neg tau))
unfolding neg of_bits
tau_parts = (refl, refl, refl, tt)

-- c is 1 / 16 at most and tau 1 / 4 at most: where |h| / 16 + 1 / 4 is t at most, |h| c is t - tau at most; k is that difference in units of 2 ^ -54
coarse : (n d a c k : ℕ) → k + 3787060782393815 * c ≡ a * 18014398509481984 → n * c + 4 * (c * d) ≤ 16 * (a * d)
    → n * 1385722962267845 * (18014398509481984 * c) ≤ k * (d * 36028797018963968)
coarse n d a c k e h = last (n * c) (k * d) (middle (k * d) (a * d) (c * d) (n * c) (first k d a c e) h) (regroup n c) (regroup_right k d)
  where
    first : (k d a c : ℕ) → k + 3787060782393815 * c ≡ a * 18014398509481984 → a * d * 18014398509481984 ≤ k * d + 4503599627370496 * (c * d)
    first k d a c e = let w : (k + 3787060782393815 * c) * d ≡ a * 18014398509481984 * d = ap (λ (z : ℕ). z * d) e in omega arith

    middle : (x y z w : ℕ) → y * 18014398509481984 ≤ x + 4503599627370496 * z → w + 4 * z ≤ 16 * y → w * 1125899906842624 ≤ x
    middle x y z w h g = omega arith

    regroup : (n c : ℕ) → n * 1385722962267845 * (18014398509481984 * c) ≡ n * c * (1385722962267845 * 18014398509481984)
    regroup n c = simp (mul_assoc, mul_comm, mul_left_comm)

    regroup_right : (k d : ℕ) → k * (d * 36028797018963968) ≡ k * d * 36028797018963968
    regroup_right k d = sym (mul_assoc k d 36028797018963968)

    last : (w x : ℕ) → w * 1125899906842624 ≤ x → {l r : ℕ} → l ≡ w * (1385722962267845 * 18014398509481984) → r ≡ x * 36028797018963968 → l ≤ r
    last w x h e g =
        le_trans (le_of_eq e)
        (le_trans (mul-le-mul_left w (lit≤ {m = 1385722962267845 * 18014398509481984} {n = 1125899906842624 * 36028797018963968} tt))
        (le_trans (le_of_eq (sym (mul_assoc w 1125899906842624 36028797018963968)))
        (le_trans (mul-le-mul_right 36028797018963968 h) (le_of_eq (sym g)))))

module _ (h t : Float) (p : T (finite h)) (q : T (finite t)) (s : is_sign_minus t ≡ false) (F : T (fits binary64 h)) where
  abbrev u : Float
  u = h ⊗ slope

  abbrev v : Float
  v = neg tau ⊕ t

  abbrev hs : ℕ
  hs = num h * 1385722962267845

  abbrev hd : ℕ
  hd = den h * 36028797018963968

  abbrev ts : ℕ
  ts = 3787060782393815 * den t

  abbrev tn : ℕ
  tn = num t * 18014398509481984

  abbrev td : ℕ
  td = 18014398509481984 * den t

  u_is : u ≡ round binary64 (is_sign_minus h) hs hd
  u_is = slope_times h p

  hd_pos : 0 < hd
  hd_pos = mul-pos (den_pos h) (lit≤ tt)

  td_pos : 0 < td
  td_pos = mul-pos (pow_pos 54) (den_pos t)

  v_sum : v ≡ sum binary64 true ts false tn td
  v_sum = add_is binary64 (neg tau) t tau_parts.3 q ∙ rw (tau_parts.0, tau_parts.1, tau_parts.2, s) refl

  v_above : ts ≤ tn → v ≡ round binary64 false (tn - ts) td
  unfolding sum
  v_above l = v_sum ∙ rw (le-ltb tn ts l) (go (lt_or_le ts tn))
    where
      go : (ts < tn) ⊎ (tn ≤ ts) → cond (ltb ts tn) (round binary64 false (tn - ts) td) (round binary64 false (ts - tn) td) ≡ round binary64 false (tn - ts) td
      go (inl k) = rw (lt-ltb ts tn k) refl
      go (inr k) = rw (le-ltb ts tn k) (ap (λ (z : ℕ). round binary64 false z td) (omega arith))

  v_below : tn < ts → v ≡ round binary64 true (ts - tn) td
  unfolding sum
  v_below l = v_sum ∙ rw (le-ltb ts tn (le_of_lt l), lt-ltb tn ts l) refl

  u_finite : T (finite u)
  u_finite = slope_finite h p F

  finite_u : T (finite (round binary64 (is_sign_minus h) hs hd))
  finite_u = subst (λ (z : Float). T (finite z)) u_is u_finite

  -- t less tau is no less than h c in size
  steep : ts ≤ tn → hs * td ≤ (tn - ts) * hd → lt (u ⊕ v) plus_zero ≡ false
  steep l g = elim (round_cases false (tn - ts) td) [
    | inl f ↦
        right_not_below u v u_finite (subst (λ (z : Float). T (finite z)) (sym (v_above l)) f) (ap is_sign_minus (v_above l) ∙ round_minus false (tn - ts) td)
        (subst (λ (z : Float). num u * den z ≤ num z * den u) (sym (v_above l))
        (subst (λ (z : Float). num z * den (round binary64 false (tn - ts) td) ≤ num (round binary64 false (tn - ts) td) * den z) (sym u_is)
        (round_order binary64 (is_sign_minus h) false hs hd (tn - ts) td hd_pos td_pos finite_u f g)))
    | inr e ↦ ap (λ (z : Float). lt z plus_zero) (ap (λ (z : Float). u ⊕ z) (v_above l ∙ e) ∙ add_infinity u u_finite) ∙ plus_not_below (inf false) refl
  ]

  -- h is 8 at least
  high : is_sign_minus h ≡ false → 8 * den h ≤ num h → lt (u ⊕ v) plus_zero ≡ false
  high e l = elim (lt_or_le tn ts) [
    | inl k ↦
        let b = round_upper true (ts - tn) td 1 4 td_pos (lit≤ tt) (grain_held 1 2 (lit≤ tt) (lit≤ tt)) (omega arith) in
        let W : T (finite v) × (num v * 4 ≤ 1 * den v) = subst (λ (z : Float). T (finite z) × (num z * 4 ≤ 1 * den z)) (sym (v_below k)) (b.0, b.2) in
        let U : 1 * den u ≤ num u * 4 =
        subst (λ (z : Float). 1 * den z ≤ num z * 4) (sym u_is)
        (round_lower (is_sign_minus h) hs hd 1 4 hd_pos (lit≤ tt) (grain_held 1 2 (lit≤ tt) (lit≤ tt)) finite_u (omega arith)) in
        left_not_below u v u_finite W.0 (ap is_sign_minus u_is ∙ round_minus (is_sign_minus h) hs hd ∙ e)
        (order (num u) (den u) (num v) (den v) (mul-le-mul_right (den u) W.1) (mul-le-mul_right (den v) U))
    | inr k ↦
        elim (round_cases false (tn - ts) td) [
          | inl f ↦
              plus_not_below (u ⊕ v)
              (ap is_sign_minus (add_is binary64 u v u_finite (subst (λ (z : Float). T (finite z)) (sym (v_above k)) f))
              ∙ rw (ap is_sign_minus (v_above k) ∙ round_minus false (tn - ts) td, ap is_sign_minus u_is ∙ round_minus (is_sign_minus h) hs hd ∙ e)
              (ap is_sign_minus (sum_alike false _ _ _) ∙ round_minus false _ _))
          | inr i ↦ ap (λ (z : Float). lt z plus_zero) (ap (λ (z : Float). u ⊕ z) (v_above k ∙ i) ∙ add_infinity u u_finite) ∙ plus_not_below (inf false) refl
        ]
  ]
    where
      order : (a b c d : ℕ) → c * 4 * b ≤ 1 * d * b → 1 * b * d ≤ a * 4 * d → c * b ≤ a * d
      order a b c d h g = omega arith

  -- t is 4 at least, and |h| is 32 at most
  late : num h ≤ 32 * den h → 4 * den t ≤ num t → lt (u ⊕ v) plus_zero ≡ false
  late g l =
      let b : ts ≤ tn = omega arith in
      steep b (go (num h) (den h) (num t) (den t) (tn - ts) (back tn ts b) (mul-le-mul_right (den t) g) (mul-le-mul_right (den h) l))
    where
      go : (n d a c k : ℕ) → k + 3787060782393815 * c ≡ a * 18014398509481984 → n * c ≤ 32 * d * c → 4 * c * d ≤ a * d
          → n * 1385722962267845 * (18014398509481984 * c) ≤ k * (d * 36028797018963968)
      go n d a c k e h g = coarse n d a c k e (omega arith)

  -- h is -32 at most, and t above |h| - 13
  deep : 32 * den h ≤ num h → num h * den t < num t * den h + 13 * (den t * den h) → lt (u ⊕ v) plus_zero ≡ false
  deep l g =
      let w : 19 * den t * den h ≤ num t * den h = less (num h) (den h) (num t) (den t) (mul-le-mul_right (den t) l) g in
      let far : 19 * den t ≤ num t = le_of_mul-le-mul_right w (den_pos h) in
      let b : ts ≤ tn = omega arith in
      steep b (go (num h) (den h) (num t) (den t) (tn - ts) (back tn ts b) (mul-le-mul_right (den t) l) g)
    where
      less : (n d a c : ℕ) → 32 * d * c ≤ n * c → n * c < a * d + 13 * (c * d) → 19 * c * d ≤ a * d
      less n d a c h g = omega arith

      go : (n d a c k : ℕ) → k + 3787060782393815 * c ≡ a * 18014398509481984 → 32 * d * c ≤ n * c → n * c < a * d + 13 * (c * d)
          → n * 1385722962267845 * (18014398509481984 * c) ≤ k * (d * 36028797018963968)
      go n d a c k e h g = coarse n d a c k e (omega arith)

-- an infinite t fails the test
pub infinite_outside : (h : Float) → T (finite h) → T (fits binary64 h) → is_region2 h (inf false) ≡ false
unfolding is_region2
infinite_outside h p F =
    ap (λ (z : Float). lt z plus_zero)
    (ap (λ (z : Float). h ⊗ slope ⊕ z) (add_infinity (neg tau) tau_parts.3) ∙ add_infinity (h ⊗ slope) (slope_finite h p F))
    ∙ plus_not_below (inf false) refl

-- ---- what the tests say
past_eta : (h : Float) → T (finite h) → is_sign_minus h ≡ true → 13 * den h < num h → lt h eta ≡ true
unfolding lt of_bits
past_eta nan p s l = absurd p
past_eta (inf t) p s l = absurd p
past_eta (fin false m e) p s l = absurd (true≢false (sym s))
past_eta (fin true m e) p s l = lt-ltb (13 * 1 * down e) (m * up e * 1) (go (m * up e) (down e) l)
  where
    go : (n d : ℕ) → 13 * d < n → 13 * 1 * d < n * 1
    go n d h = omega arith

border_parts : (is_sign_minus border ≡ true) × T (finite border) × (num border < 13 * den border)
unfolding add of_bits
border_parts = (refl, tt, lit≤ tt)

infinite_under : lt (inf true) border ≡ true
unfolding lt add of_bits
infinite_under = refl

under : (z : Float) → T (finite z) → is_sign_minus z ≡ true → 13 * den z ≤ num z → lt z border ≡ true
under z p s h =
    lt_is z border p border_parts.1
    ∙ rw (border_parts.0, s) (lt-ltb (num border * den z) (num z * den border)
    (go (num z) (den z) (num border) (den border) (mul-le-mul_right (den border) h) (mul-lt-mul_of_pos_right border_parts.2 (den_pos z))))
  where
    go : (n d m e : ℕ) → 13 * d * e ≤ n * e → m * d < 13 * e * d → m * d < n * e
    go n d m e h g = omega arith

over_border : (t h : Float) → T (finite t) → T (finite h) → is_sign_minus t ≡ false → is_sign_minus h ≡ true → lt (t ⊕ h) border ≡ false
    → num h * den t < num t * den h + 13 * (den t * den h)
unfolding sum
over_border t h p q s u l = elim (lt_or_le (num h * den t) (num t * den h + 13 * (den t * den h))) [
  | inl g ↦ g
  | inr g ↦ absurd (true≢false (sym (go g) ∙ l))
]
  where
    A : ℕ
    A = num t * den h

    B : ℕ
    B = num h * den t

    C : ℕ
    C = den t * den h

    C-pos : 0 < C
    C-pos = mul-pos (den_pos t) (den_pos h)

    less : A + 13 * C ≤ B → A < B
    less g = let c : 0 < C = C-pos in omega arith

    is : A + 13 * C ≤ B → t ⊕ h ≡ round binary64 true (B - A) C
    is g = add_is binary64 t h p q ∙ rw (s, u, lt-ltb A B (less g)) refl

    go : A + 13 * C ≤ B → lt (t ⊕ h) border ≡ true
    go g = ap (λ (z : Float). lt z border) (is g) ∙ elim (round_cases true (B - A) C) [
      | inl f ↦
          let r = round binary64 true (B - A) C in
          let b : 13 * den r ≤ num r * 1 = round_lower true (B - A) C 13 1 C-pos (pow_pos 0) (grain_held 13 0 (lit≤ tt) zero-le) f (omega arith) in
          under r f (round_minus true (B - A) C) (le_trans b (le_of_eq (mul-one (num r))))
      | inr e ↦ ap (λ (z : Float). lt z border) e ∙ infinite_under
    ]

record Moderate (h t : Float) : Type 0 where
  h_small : Small 5 h
  h_plus : is_sign_minus h ≡ false → Small 3 h
  t_small : Small 2 t

moderate : (h t : Float) → T (finite h) → T (finite t) → is_sign_minus t ≡ false → T (fits binary64 h) → is_region1 h t ≡ false → is_region2 h t ≡ true
    → Moderate h t
unfolding is_region1 is_region2
moderate h t p q s F r1 r2 =
    let plus : is_sign_minus h ≡ false → num h ≤ 2 ^ 3 * den h = λ e. elim (lt_or_le (2 ^ 3 * den h) (num h)) [
      | inl k ↦ absurd (true≢false (sym r2 ∙ high h t p q s F e (le_of_lt k)))
      | inr k ↦ k
    ] in
    let minus : is_sign_minus h ≡ true → num h ≤ 2 ^ 5 * den h = λ e. elim (lt_or_le (2 ^ 5 * den h) (num h)) [
      | inl k ↦
          let eta_passed : lt h eta ≡ true = past_eta h p e (omega arith) in
          absurd (true≢false (sym r2 ∙ deep h t p q s F (le_of_lt k) (over_border t h q p s e (second (lt h eta) (lt (t ⊕ h) border) eta_passed r1))))
      | inr k ↦ k
    ] in
    let H : num h ≤ 2 ^ 5 * den h = either (is_sign_minus h) (λ e. let l = plus e in omega arith) minus in
    record {
      h_small = record { is_finite_lem = p; bound = H };
      h_plus = λ e. record { is_finite_lem = p; bound = plus e };
      t_small = record {
        is_finite_lem = q;
        bound = elim (lt_or_le (2 ^ 2 * den t) (num t)) [
          | inl k ↦ absurd (true≢false (sym r2 ∙ late h t p q s F H (le_of_lt k)))
          | inr k ↦ k
        ];
      };
    }
  where
    second : (a b : Bool) → a ≡ true → (a && b) ≡ false → b ≡ false
    second true b e g = g
    second false b e g = absurd (true≢false (sym e))

    either : {X : Type 0} (b : Bool) → (b ≡ false → X) → (b ≡ true → X) → X
    either true f g = g refl
    either false f g = f refl

-- ---- y'
tail_part : (w : Float) → Plus 0 w → Small 23 (y_prime_tail_expansion_rational_function_part_plus1 w)
unfolding y_prime_tail_expansion_rational_function_part_plus1 of_bits neg each_test
tail_part w h =
    small_add
    (small_mul
    (small_div (nested_small 0 17 17 w _ _ h.small (each_small 17 _ tt) (small_of 17 _ tt) (lit≤ tt) (lit≤ tt))
    (nested_between 0 0 17 17 w _ _ h (each_between 0 17 _ tt) (between_of 0 17 _ tt) (lit≤ tt) (lit≤ tt) (lit≤ tt)) (lit≤ tt))
    h.small (lit≤ tt))
    (small_of 0 one tt) (lit≤ tt)

below_four : (h : Float) → T (finite h) → lt h (neg (bits 0x4010_0000_0000_0000)) ≡ true → den h ≤ num h * 2 ^ 0
unfolding lt neg of_bits
below_four nan p l = absurd p
below_four (inf s) p l = absurd p
below_four (fin false m e) p l = absurd (true≢false (sym l))
below_four (fin true m e) p l = go (m * up e) (down e) (ltb-true (4 * down e) (m * up e * 1) l)
  where
    go : (n d : ℕ) → 4 * d < n * 1 → d ≤ n * 1
    go n d h = omega arith

tail_small : (h : Float) → Small 5 h → lt h (neg (bits 0x4010_0000_0000_0000)) ≡ true → let w =
    recip (h ⊗ h) in Small 23 (w ⊗ y_prime_tail_expansion_rational_function_part_plus1 w)
unfolding of_bits
tail_small h k l =
    let w : Plus 0 (recip (h ⊗ h)) =
    plus_div (between_of 0 0 one tt).plus (between_square 0 k (below_four h k.is_finite_lem l) (lit≤ tt) (lit≤ tt)) (lit≤ tt) in
    small_mul w.small (tail_part (recip (h ⊗ h)) w) (lit≤ tt)

middle_small : (h : Float) → Small 5 h → is_sign_minus h ≡ true → Small 50 (y_prime_middle h)
unfolding y_prime_middle of_bits neg each_test
middle_small h k s =
    let z : Plus 5 (neg h) = record { small = small_neg k; sign = neg_sign h k.is_finite_lem ∙ rw s refl } in
    small_div
    (evaluate_small 5 1 6 (neg h) _ _ z.small (each_small 1 _ tt) (small_add (small_mul k (small_of 0 _ tt) (lit≤ tt)) (small_of 0 _ tt) (lit≤ tt))
    (lit≤ tt) (lit≤ tt))
    (evaluate_between 8 5 1 6 (neg h) _ _ z (each_between 8 1 _ tt)
    (between_add (alike_mul k (small_of 0 _ tt) (rw s refl) (lit≤ tt)) (between_of 8 0 _ tt) (lit≤ tt) (lit≤ tt)) (lit≤ tt) (lit≤ tt) (lit≤ tt))
    (lit≤ tt)

abbrev bend : Float
bend = neg (bits 0x3FDE_0000_0000_0000)

-- from -0.46875 down h has the sign -; above it, with that sign, it is 1 at most in size
under_bend : (h : Float) → T (finite h) → le h bend ≡ true → is_sign_minus h ≡ true
unfolding le neg of_bits
under_bend nan p l = absurd p
under_bend (inf s) p l = absurd p
under_bend (fin true m e) p l = refl
under_bend (fin false m e) p l =
    let both : T (eqb (m * up e * den bend) (num bend * down e) && eqb (m * up e * den bend) 0) = subst T (sym l) tt in
    let same = eqb→eq (m * up e * den bend) (num bend * down e) (and_l (eqb (m * up e * den bend) (num bend * down e)) _ both) in
    let none = eqb→eq (m * up e * den bend) 0 (and_r (eqb (m * up e * den bend) (num bend * down e)) _ both) in
    absurd (go (m * up e * den bend) (down e) same none (down_pos e))
  where
    go : (a d : ℕ) → a ≡ num bend * d → a ≡ 0 → 0 < d → ⊥
    go a d e g h = omega arith

over_bend : (h : Float) → T (finite h) → is_sign_minus h ≡ true → le h bend ≡ false → num h ≤ 2 ^ 3 * den h
unfolding le neg of_bits
over_bend nan p s l = absurd p
over_bend (inf t) p s l = absurd p
over_bend (fin false m e) p s l = absurd (true≢false (sym s))
over_bend (fin true m e) p s l =
    go (m * up e) (down e) (ltb-false (num bend * down e) (m * up e * den bend) (first (ltb (num bend * down e) (m * up e * den bend)) _ l))
  where
    first : (a b : Bool) → (a || b) ≡ false → a ≡ false
    first true b e = e
    first false b e = refl

    go : (n d : ℕ) → n * den bend ≤ num bend * d → n ≤ 2 ^ 3 * d
    go n d h = omega arith

near_small : (h : Float) → Small 3 h → Small 807 (mul_add2_sel (erfcx_cody (neg frac1_sqrt2 ⊗ h)) (h ⊗ sqrt_pi_over2) one)
unfolding of_bits neg
near_small h k =
    small_add
    (small_mul (erfcx_small _ (small_mul {j = 0} (small_of 0 (neg frac1_sqrt2) tt) k (lit≤ tt))) (small_mul k (small_of 1 sqrt_pi_over2 tt) (lit≤ tt)) (lit≤ tt))
    (small_of 0 one tt) (lit≤ tt)

y_prime_small : (h t : Float) → Moderate h t → Small 807 (y_prime h)
unfolding y_prime
y_prime_small h t M =
    let k = M.h_small in
    by_test (Small 807) (lt h (neg (bits 0x4010_0000_0000_0000))) (λ l. small_widen 807 (tail_small h k l) (lit≤ tt))
    (λ n. by_test (Small 807) (le h bend) (λ l. small_widen 807 (middle_small h k (under_bend h k.is_finite_lem l)) (lit≤ tt))
    (λ l. near_small h (go (is_sign_minus h) M.h_plus (λ s. record { is_finite_lem = k.is_finite_lem; bound = over_bend h k.is_finite_lem s l }))))
  where
    go : (b : Bool) → (b ≡ false → Small 3 h) → (b ≡ true → Small 3 h) → Small 3 h
    go true f g = g refl
    go false f g = f refl

-- ---- the coefficients
module _ (a h2 : Float) (A : Small 807 a) (H : Small 10 h2) where
  b_small : (f r d : Float) (fs rs : List Float) → Small 20 (f ⊕ h2) → Small 20 (r ⊖ h2) → Each (Small 20) fs → Each (Small 20) rs
      → length fs ≤ 5 → length rs ≤ 5 → Between 0 40 d → Small 883 (b a h2 ((f ⊕ h2) ∷ fs) ((r ⊖ h2) ∷ rs) d)
  unfolding b
  b_small f r d fs rs F R C D l m E =
      let x : Small 75 (nested h2 ((f ⊕ h2) ∷ fs)) = small_widen 75 (nested_small 10 20 20 h2 (f ⊕ h2) fs H C F (lit≤ tt) (omega arith)) (omega arith) in
      let y : Small 75 (nested h2 ((r ⊖ h2) ∷ rs)) = small_widen 75 (nested_small 10 20 20 h2 (r ⊖ h2) rs H D R (lit≤ tt) (omega arith)) (omega arith) in
      small_div (small_add (small_mul x A (lit≤ tt)) y (lit≤ tt)) E (lit≤ tt)

  plus_small : (c : Float) → T (small_test 19 c) → Small 20 (c ⊕ h2)
  plus_small c t = small_add (small_of 19 c t) H (lit≤ tt)

  less_small : (c : Float) → T (small_test 19 c) → Small 20 (c ⊖ h2)
  less_small c t = small_sub (small_of 19 c t) H (lit≤ tt)

  b0_small : Small 883 (b0 a)
  unfolding of_bits
  b0_small = small_widen 883 (small_mul (small_of 1 two tt) A (lit≤ tt)) (lit≤ tt)

  b1_small : Small 883 (b1 a h2)
  unfolding b1 of_bits neg
  b1_small =
      small_widen 883
      (small_div (small_add (small_mul A (plus_small _ tt) (lit≤ tt)) (small_of 0 _ tt) (lit≤ tt)) (between_of 0 2 _ tt) (lit≤ tt)) (lit≤ tt)

  b2_small : Small 883 (b2 a h2)
  unfolding b2 of_bits neg Each
  b2_small =
      small_widen 883
      (small_div
      (small_add (small_mul (nested_small 10 20 20 h2 _ _ H (small_of 20 _ tt, tt) (plus_small _ tt) (lit≤ tt) (lit≤ tt)) A (lit≤ tt)) (less_small _ tt)
      (lit≤ tt))
      (between_of 0 6 _ tt) (lit≤ tt)) (lit≤ tt)

  b3_small : Small 883 (b3 a h2)
  unfolding of_bits neg each_test
  b3_small = b_small _ _ _ _ _ (plus_small _ tt) (less_small _ tt) (each_small 20 _ tt) (each_small 20 _ tt) (lit≤ tt) (lit≤ tt) (between_of 0 40 _ tt)

  b4_small : Small 883 (b4 a h2)
  unfolding of_bits neg each_test
  b4_small = b_small _ _ _ _ _ (plus_small _ tt) (less_small _ tt) (each_small 20 _ tt) (each_small 20 _ tt) (lit≤ tt) (lit≤ tt) (between_of 0 40 _ tt)

  b5_small : Small 883 (b5 a h2)
  unfolding of_bits neg each_test
  b5_small = b_small _ _ _ _ _ (plus_small _ tt) (less_small _ tt) (each_small 20 _ tt) (each_small 20 _ tt) (lit≤ tt) (lit≤ tt) (between_of 0 40 _ tt)

  b6_small : Small 883 (b6 a h2)
  unfolding of_bits neg each_test
  b6_small = b_small _ _ _ _ _ (plus_small _ tt) (less_small _ tt) (each_small 20 _ tt) (each_small 20 _ tt) (lit≤ tt) (lit≤ tt) (between_of 0 40 _ tt)

-- ---- the expansion
pub small_t_small : (h t : Float) → T (finite h) → T (finite t) → is_sign_minus t ≡ false → T (fits binary64 h) → is_region1 h t ≡ false → is_region2 h t ≡ true
    → Small 915 (small_t_expansion_of_scaled_normalised_black h t)
unfolding small_t_expansion_of_scaled_normalised_black Each
small_t_small h t p q s F r1 r2 =
    let M = moderate h t p q s F r1 r2 in
    let A = y_prime_small h t M in
    let H : Small 10 (h ⊗ h) = small_mul M.h_small M.h_small (lit≤ tt) in
    let T2 : Small 4 (t ⊗ t) = small_mul M.t_small M.t_small (lit≤ tt) in
    let a = y_prime h in
    let h2 = h ⊗ h in
    small_mul
    (nested_small 4 883 883 (t ⊗ t) _ _ T2
    (b5_small a h2 A H, (b4_small a h2 A H, (b3_small a h2 A H, (b2_small a h2 A H, (b1_small a h2 A H, (b0_small a h2 A H, tt))))))
    (b6_small a h2 A H) (lit≤ tt) (lit≤ tt))
    M.t_small (lit≤ tt)
