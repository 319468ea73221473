-- The asymptotic expansion is finite where it answers. With |h| from m + 11 to m + 12 and t of m at most, the difference of the squares is
-- m + 12 at least, so both quotients by it are 1 at most in size. Assumes nothing.
use Rattle.std.specs.Prelude.{◌≡◌, refl, ◌⊎◌, Bool, true, false, List, [], ◌∷◌, T, ltb, leb, length, take, drop}
use Rattle.std.proofs.Common.{sym, ap, ◌∙◌, subst, inl, inr, true≢false, sub-le, lt_trans, le_of_suc-le-suc, le_trans, le_of_eq, le_of_lt, lt_of_lt_of_le, lt_of_mul-lt-mul_right, mul-one, one-mul, mul_assoc, mul-pos, mul-le-mul, mul-le-mul_right, div-add-mod', mod-lt, arith, lt-ltb, le-ltb, ltb-true, pow_pos, pow_mono, length-take, length-drop}
use Prim.Native.Nat.{ℕ, zero, suc, ◌+◌, ◌-◌, ◌*◌, ◌/◌, ◌%◌, ◌^◌, ◌≤◌, ◌<◌}
use Rattle.std.proofs.Math.Dec.{lit≤}
use lib.Ieee.{Float, nan, inf, fin, binary64, low, up, down, size, unlike, round, sum, add, div, neg, lt, fits, of_bits}
use Rattle.std.specs.Float.Ieee.Digits.{size-lt, size_reaches}
use Rattle.std.specs.Float.Ieee.Fits.{mul-fits}
use Rattle.std.specs.Float.Ieee.Scale.{finite}
use Rattle.std.specs.Float.Ieee.Positive.{num, den, den_pos}
use Rattle.arithmetic.specs.Operations.{◌⊕◌, ◌⊗◌, ◌⊘◌, half}
use Rattle.arithmetic.specs.Basic.{is_sign_minus, mul_add2_sel}
use Rattle.arithmetic.specs.Laws.Choices.{in_both}
use Rattle.arithmetic.specs.Laws.Numbers.{lt_or_le, pow_split, mul_lt_pow, size_gt}
use Rattle.arithmetic.specs.Laws.Compare.{lt_is}
use Rattle.arithmetic.specs.Laws.Times.{neg_finite, neg_sign, neg_num, neg_den}
use Rattle.arithmetic.specs.Laws.Sums.{add_is}
use Rattle.arithmetic.specs.Laws.Products.{mul_is, div_is}
use Rattle.arithmetic.specs.Laws.Bounds.{AtMost, round_at_most, round_to_infinity}
use Rattle.arithmetic.specs.Laws.ScaledRatios.{positive_zero}
use Rattle.special_function.specs.Polynomial.{nested}
use Rattle.bs_option_price.specs.Table.{table, patterns, row, a}
use Rattle.bs_option_price.specs.BsOptionPrice.{tau, eta, term, omega_over_q, tail, omega as omega_of, asymptotic_expansion_of_scaled_normalised_black}
use Rattle.arithmetic.specs.Laws.PowerBounds.{zero_small, small_round, Small, small_widen, small_mul, small_add, square_is, small_test, small_of}
use Rattle.arithmetic.specs.Laws.Sizes.{round_cases, round_minus, Held, grain_held, power_held, round_upper, round_lower}
use Rattle.special_function.specs.Laws.PolynomialBounds.{Each, each_test, each_of, nested_small}

-- ---- a finite value and an infinity
pub add_infinity : (x : Float) → T (finite x) → x ⊕ inf false ≡ inf false
unfolding add
add_infinity nan p = absurd p
add_infinity (inf u) p = absurd p
add_infinity (fin u k e) p = refl

-- ---- the tests
under_eta : (h : Float) → T (finite h) → lt h eta ≡ true → (is_sign_minus h ≡ true) × (13 * den h < num h)
unfolding lt of_bits
under_eta nan p l = absurd p
under_eta (inf s) p l = absurd p
under_eta (fin false m e) p l = absurd (true≢false (sym l))
under_eta (fin true m e) p l = let u = ltb-true (13 * 1 * down e) (m * up e * 1) l in (refl, go (m * up e) (down e) u)
  where
    go : (n d : ℕ) → 13 * 1 * d < n * 1 → 13 * d < n
    go n d h = omega arith

abbrev pub border : Float
border = tau ⊕ half ⊕ eta

border_is : (is_sign_minus border ≡ true) × T (finite border) × (12 * den border ≤ num border)
unfolding add of_bits
border_is = (refl, tt, lit≤ tt)

plus_not_under : (z : Float) → is_sign_minus z ≡ false → lt z border ≡ false
unfolding lt add of_bits
plus_not_under nan s = refl
plus_not_under (inf true) s = absurd (true≢false s)
plus_not_under (inf false) s = refl
plus_not_under (fin true m e) s = absurd (true≢false s)
plus_not_under (fin false m e) s = refl

-- what is not below -12 is not below the border
not_under : (z : Float) → (is_sign_minus z ≡ false) ⊎ (T (finite z) × (num z ≤ 12 * den z)) → lt z border ≡ false
not_under z (inr (p, h)) =
    lt_is z border p border_is.1 ∙ rw border_is.0 (go (is_sign_minus z) (num z) (den z) (num border) (den border) h border_is.2)
  where
    go : (s : Bool) (n d m e : ℕ) → n ≤ 12 * d → 12 * e ≤ m → lib.Ieee.below s (n * e) true (m * d) ≡ false
    go false n d m e h g = refl
    go true n d m e h g =
        let u : n * e ≤ 12 * d * e = mul-le-mul_right e h in
        let w : 12 * e * d ≤ m * d = mul-le-mul_right d g in
        le-ltb (m * d) (n * e) (omega arith)
not_under z (inl s) = plus_not_under z s

under_border : (t h : Float) → T (finite t) → T (finite h) → is_sign_minus t ≡ false → is_sign_minus h ≡ true → lt (t ⊕ h) border ≡ true
    → num t * den h + 12 * (den t * den h) < num h * den t
unfolding sum
under_border t h p q s u l = elim (lt_or_le (num t * den h + 12 * (den t * den h)) (num h * den t)) [
  | inl g ↦ g
  | inr g ↦ absurd (true≢false (sym l ∙ not_under (t ⊕ h)
      (subst (λ (z : Float). (is_sign_minus z ≡ false) ⊎ (T (finite z) × (num z ≤ 12 * den z))) (sym is) (go g (lt_or_le A B)))))
]
  where
    A : ℕ
    A = num t * den h

    B : ℕ
    B = num h * den t

    C : ℕ
    C = den t * den h

    is : t ⊕ h ≡ sum binary64 false A true B C
    is = add_is binary64 t h p q ∙ rw (s, u) refl

    go : B ≤ A + 12 * C → (A < B) ⊎ (B ≤ A) → let z = sum binary64 false A true B C in (is_sign_minus z ≡ false) ⊎ (T (finite z) × (num z ≤ 12 * den z))
    go g (inr k) = inl (rw (le-ltb A B k) (round_minus false (A - B) C))
    go g (inl k) =
        let b = round_upper true (B - A) C 12 1 (mul-pos (den_pos t) (den_pos h)) (pow_pos 0) (grain_held 12 0 (lit≤ tt) (lit≤ tt)) (omega arith) in
        rw (lt-ltb A B k) (inr (b.0, omega (arith, b.2)))

-- ---- |h| lies from m + 11 to m + 12, and t is m at most
record Near (hn hd tn td : ℕ) : Type 0 where
  m : ℕ
  from : (m + 11) * hd ≤ hn
  to : hn ≤ (m + 12) * hd
  some : 2 ≤ m
  under : tn ≤ m * td

near : (hn hd tn td : ℕ) → 0 < hd → 13 * hd < hn → tn * hd + 12 * (td * hd) < hn * td → Near hn hd tn td
near hn hd tn td D H G =
    let n = hn / hd in
    let r = hn % hd in
    let e : n * hd + r ≡ hn = div-add-mod' hn hd in
    let l : r < hd = mod-lt hn D in
    let big : 13 ≤ n = elim (lt_or_le n 13) [ inl k ↦ absurd (few n r k e l) | inr k ↦ k ] in
    let m = n - 11 in
    let back : n ≡ m + 11 = omega arith in
    let e' : (m + 11) * hd + r ≡ hn = subst (λ (z : ℕ). z * hd + r ≡ hn) back e in
    record {
      m = m;
      from = omega arith;
      to = omega arith;
      some = omega arith;
      under = le_of_lt (lt_of_mul-lt-mul_right hd (below m r e' l));
    }
  where
    few : (n r : ℕ) → n < 13 → n * hd + r ≡ hn → r < hd → ⊥
    few n r k e l = let g : n * hd ≤ 12 * hd = mul-le-mul_right hd (le_of_suc-le-suc k) in omega arith

    below : (m r : ℕ) → (m + 11) * hd + r ≡ hn → r < hd → tn * hd < m * td * hd
    below m r e l =
        let g : hn * td ≤ (m + 12) * hd * td = mul-le-mul_right td (omega arith) in
        omega arith

-- ---- a value of size P at least is left where b of the sign - is taken from a
difference : (b a : Float) (P : ℕ) → T (finite b) → T (finite a) → is_sign_minus b ≡ true → is_sign_minus a ≡ false → T (fits binary64 a) → 0 < P → Held P 1
    → P * (den b * den a) + num b * den a ≤ num a * den b → T (finite (b ⊕ a)) × (P * den (b ⊕ a) ≤ num (b ⊕ a))
unfolding sum
difference b a P p q s u F some G h =
    let A = num b * den a in
    let B = num a * den b in
    let C = den b * den a in
    let c : 0 < C = mul-pos (den_pos b) (den_pos a) in
    let l : A < B = more A B C (mul-pos some c) h in
    let is : b ⊕ a ≡ round binary64 false (B - A) C = add_is binary64 b a p q ∙ rw (s, u, lt-ltb A B l) refl in
    let r = round binary64 false (B - A) C in
    let top : AtMost false a r = round_at_most binary64 false (B - A) C a c F q (not_over (num a) (den b) (den a) A) in
    let low : P * den r ≤ num r * 1 = round_lower false (B - A) C P 1 c (pow_pos 0) G top.is_finite_lem (rest A B C h) in
    subst (λ (z : Float). T (finite z) × (P * den z ≤ num z)) (sym is) (top.is_finite_lem, le_trans low (le_of_eq (mul-one (num r))))
  where
    more : (A B C : ℕ) → 0 < P * C → P * C + A ≤ B → A < B
    more A B C g h = omega arith

    rest : (A B C : ℕ) → P * C + A ≤ B → P * C ≤ (B - A) * 1
    rest A B C h = omega arith

    not_over : (n d e A : ℕ) → (n * d - A) * e ≤ n * (d * e)
    not_over n d e A = le_trans (mul-le-mul_right e (sub-le (n * d) A)) (le_of_eq (mul_assoc n d e))

-- ---- r, t (-t) + h h, is m + 12 at least, or infinite
module _ (h t : Float) (p : T (finite h)) (q : T (finite t)) (s : is_sign_minus t ≡ false) (N : Near (num h) (den h) (num t) (den t))
    (tame : 2 ^ 26 * den h ≤ num h → num t ≤ den t) where
  abbrev b : Float
  b = t ⊗ neg t

  abbrev a2 : Float
  a2 = h ⊗ h

  abbrev m : ℕ
  m = N.m

  b_is : b ≡ round binary64 true (num t * num t) (den t * den t)
  b_is = mul_is binary64 t (neg t) q (neg_finite t q) ∙ rw (neg_num t, neg_den t, neg_sign t q, s) refl

  -- with w for a bound of t
  b_le : (w : ℕ) → w < 2 ^ 26 → num t ≤ w * den t → T (finite b) × (is_sign_minus b ≡ true) × (num b ≤ w * w * den b)
  b_le w W l =
      let u = round_upper true (num t * num t) (den t * den t) (w * w) 1 (mul-pos (den_pos t) (den_pos t)) (pow_pos 0)
      (grain_held (w * w) 0 (lt_trans (mul_lt_pow 26 26 W W) (lit≤ tt)) (lit≤ tt)) (square (num t) (den t) (mul-le-mul l l)) in
      subst (λ (z : Float). T (finite z) × (is_sign_minus z ≡ true) × (num z ≤ w * w * den z)) (sym b_is)
      (u.0, u.1, le_trans (le_of_eq (sym (mul-one _))) u.2)
    where
      square : (n d : ℕ) → n * n ≤ w * d * (w * d) → n * n * 1 ≤ w * w * (d * d)
      square n d h = omega arith

  record Left (r : Float) : Type 0 where
    is_finite_lem : T (finite r)
    P : ℕ
    least : P * den r ≤ num r
    reach : m + 12 ≤ P

  a2_sign : is_sign_minus a2 ≡ false
  a2_sign = ap is_sign_minus (square_is h p) ∙ round_minus false (num h * num h) (den h * den h)

  -- with n for a bound of h
  a2_ge : (n : ℕ) → Held (n * n) 1 → n * den h ≤ num h → T (finite a2) → n * n * den a2 ≤ num a2
  a2_ge n G l f =
      subst (λ (z : Float). n * n * den z ≤ num z) (sym (square_is h p))
      (le_trans (round_lower false (num h * num h) (den h * den h) (n * n) 1 (mul-pos (den_pos h) (den_pos h)) (pow_pos 0) G
      (subst (λ (z : Float). T (finite z)) (square_is h p) f) (square (num h) (den h) (mul-le-mul l l))) (le_of_eq (mul-one _)))
    where
      square : (a d : ℕ) → n * d * (n * d) ≤ a * a → n * n * (d * d) ≤ a * a * 1
      square a d h = omega arith

  few : m + 12 ≤ 2 ^ 26 → T (finite a2) → Left (b ⊕ a2)
  few l f =
      let W : m < 2 ^ 26 = omega arith in
      let some : 0 < 22 * m + 121 = omega arith in
      let small : 22 * m + 121 < 2 ^ 53 = omega arith in
      let n = m + 11 in
      let M : n < 2 ^ 26 = omega arith in
      let (x, y, z) = b_le m W N.under in
      let A : n * n * den a2 ≤ num a2 = a2_ge n (grain_held (n * n) 0 (lt_trans (mul_lt_pow 26 26 M M) (lit≤ tt)) (lit≤ tt)) N.from f in
      let P = 22 * m + 121 in
      let d =
      difference b a2 P x f y a2_sign (mul-fits binary64 h h) some
      (grain_held P 0 small (lit≤ tt)) (go m (num b) (den b) (num a2) (den a2) (mul-le-mul_right (den a2) z) (mul-le-mul_right (den b) A)) in
      record { is_finite_lem = d.0; P = P; least = d.1; reach = omega arith }
    where
      go : (m x y a d : ℕ) → x * d ≤ m * m * y * d → (m + 11) * (m + 11) * d * y ≤ a * y → (22 * m + 121) * (y * d) + x * d ≤ a * y
      go m x y a d h g = omega arith

  -- from 2 ^ 26 on, with 2 ^ j for a bound of h
  many : 2 ^ 26 ≤ m + 11 → T (finite a2) → Left (b ⊕ a2)
  many l f =
      let n = m + 11 in
      let j = size n - 1 in
      let some : 26 < size n = size_gt n 26 l in
      let J : 2 ^ j ≤ n = size_reaches n j (omega arith) in
      let K : n < 2 ^ (j + 1) = subst (λ (z : ℕ). n < 2 ^ z) (omega arith) (size-lt n) in
      let H : 2 ^ j * den h ≤ num h = le_trans (mul-le-mul_right (den h) J) N.from in
      let (x, y, z) = b_le 1 (lit≤ tt) (le_trans (tame (le_trans (mul-le-mul_right (den h) l) N.from)) (le_of_eq (sym (one-mul (den t))))) in
      let twice : 2 ^ j * 2 ^ j ≡ 2 ^ (j + j) = pow_split j j (j + j) refl in
      let under : j + j ≤ 1023 = elim (lt_or_le 1023 (j + j)) [
        | inl k ↦ absurd (subst (λ (z : Float). T (finite z)) (square_is h p ∙ round_to_infinity false (num h * num h) (den h * den h)
            (mul-pos (den_pos h) (den_pos h))
            (le_trans (mul-le-mul_right (den h * den h) (le_trans (pow_mono k) (le_of_eq (sym twice)))) (over (2 ^ j) (num h) (den h) (mul-le-mul H H)))) f)
        | inr k ↦ k
      ] in
      let A : 2 ^ j * 2 ^ j * den a2 ≤ num a2 = a2_ge (2 ^ j) (subst (λ (z : ℕ). Held z 1) (sym twice) (power_held (j + j) under)) H f in
      let P = 2 ^ (j + j - 1) in
      let whole : 2 ^ (j + j) ≡ P * 2 = sym (pow_split (j + j - 1) 1 (j + j) (omega arith)) in
      let next : j + 1 ≤ j + j - 1 = omega arith in
      let near : m + 12 ≤ 2 ^ (j + 1) = omega arith in
      let d =
      difference b a2 P x f y a2_sign (mul-fits binary64 h h) (pow_pos (j + j - 1)) (power_held (j + j - 1) (omega arith))
      (go P (num b) (den b) (num a2) (den a2) (pow_pos (j + j - 1)) z (subst (λ (z : ℕ). z * den a2 ≤ num a2) (twice ∙ whole) A)) in
      record { is_finite_lem = d.0; P = P; least = d.1; reach = le_trans near (pow_mono next) }
    where
      go : (P x y a d : ℕ) → 0 < P → x ≤ 1 * 1 * y → P * 2 * d ≤ a → P * (y * d) + x * d ≤ a * y
      go P x y a d p h g =
          let u : x * d ≤ 1 * 1 * y * d = mul-le-mul_right d h in
          let v : P * 2 * d * y ≤ a * y = mul-le-mul_right y g in
          let w : 1 * (y * d) ≤ P * (y * d) = mul-le-mul_right (y * d) p in
          omega arith

      over : (w n d : ℕ) → w * d * (w * d) ≤ n * n → w * w * (d * d) ≤ n * n
      over w n d h = omega arith

  left : T (finite a2) → Left (b ⊕ a2)
  left f = elim (lt_or_le (m + 11) (2 ^ 26)) [ inl k ↦ few (omega arith) f | inr k ↦ many k f ]

  -- ---- so the quotients are 1 at most in size
  ratio_small : (x y : Float) → T (finite x) → T (finite y) → 0 < num y → num x * den y ≤ num y * den x → Small 0 (x ⊘ y)
  ratio_small x y p q Y l =
      subst (Small 0) (sym (div_is binary64 x y p q ∙ rw (positive_zero (num y) Y) refl))
      (small_round (unlike (is_sign_minus x) (is_sign_minus y)) (num x * den y) (num y * den x) 0 (mul-pos Y (den_pos x)) (lit≤ tt)
      (le_trans l (le_of_eq (sym (one-mul (num y * den x)))))).0

  -- by what is left, for an x below m + 12
  over_left : (x r : Float) → T (finite x) → num x ≤ (m + 12) * den x → Left r → Small 0 (x ⊘ r)
  over_left x r p l L =
      let g : (m + 12) * den r ≤ num r = le_trans (mul-le-mul_right (den r) L.reach) L.least in
      ratio_small x r p L.is_finite_lem (lt_of_lt_of_le (mul-pos (twelve m) (den_pos r)) g)
      (go (num x) (den x) (num r) (den r) (mul-le-mul_right (den r) l) (mul-le-mul_right (den x) g))
    where
      twelve : (m : ℕ) → 0 < m + 12
      twelve m = omega arith

      go : (n d a c : ℕ) → n * c ≤ (m + 12) * d * c → (m + 12) * c * d ≤ a * d → n * c ≤ a * d
      go n d a c h g = omega arith

  over_infinity : (x : Float) → T (finite x) → Small 0 (x ⊘ inf false)
  unfolding div
  over_infinity nan p = absurd p
  over_infinity (inf u) p = absurd p
  over_infinity (fin u k e) p = record { is_finite_lem = tt; bound = lit≤ tt }

  abbrev r : Float
  r = mul_add2_sel t (neg t) (h ⊗ h)

  b_finite : T (finite b)
  b_finite = elim (lt_or_le (m + 11) (2 ^ 26)) [
    | inl k ↦ (b_le m (omega arith) N.under).0
    | inr k ↦ (b_le 1 (lit≤ tt) (le_trans (tame (le_trans (mul-le-mul_right (den h) k) N.from)) (le_of_eq (sym (one-mul (den t)))))).0
  ]

  infinite_left : a2 ≡ inf false → r ≡ inf false
  infinite_left e = ap (λ (z : Float). b ⊕ z) e ∙ add_infinity b b_finite

  over_r : (x : Float) → T (finite x) → num x ≤ (m + 12) * den x → Small 0 (x ⊘ r)
  over_r x k l = elim (round_cases false (num h * num h) (den h * den h)) [
    | inl f ↦ over_left x r k l (left (subst (λ (z : Float). T (finite z)) (sym (square_is h p)) f))
    | inr e ↦ subst (λ (z : Float). Small 0 (x ⊘ z)) (sym (infinite_left (square_is h p ∙ e))) (over_infinity x k)
  ]

  t_over_h : Small 0 (t ⊘ h)
  t_over_h =
      ratio_small t h q p (lt_of_lt_of_le (mul-pos (eleven m) (den_pos h)) N.from)
      (go (num t) (den t) (num h) (den h) (mul-le-mul_right (den h) N.under) (mul-le-mul_right (den t) N.from))
    where
      eleven : (m : ℕ) → 0 < m + 11
      eleven m = omega arith

      go : (n d a c : ℕ) → n * c ≤ m * d * c → (m + 11) * c * d ≤ a * d → n * c ≤ a * d
      go n d a c h g = omega arith

-- ---- the table's polynomials, for an e of 1 at most in size
each_take : (P : Float → Type 0) (i : ℕ) (cs : List Float) → Each P cs → Each P (take i cs)
unfolding Each
each_take P zero cs h = tt
each_take P (suc i) [] h = tt
each_take P (suc i) (c ∷ cs) (g, h) = (g, each_take P i cs h)

each_drop : (P : Float → Type 0) (i : ℕ) (cs : List Float) → Each P cs → Each P (drop i cs)
unfolding Each
each_drop P zero cs h = h
each_drop P (suc i) [] h = tt
each_drop P (suc i) (c ∷ cs) (g, h) = each_drop P i cs h

table_test : T (each_test (small_test 100) table)
unfolding each_test table patterns of_bits
table_test = tt

table_length : length table ≡ 153
unfolding table patterns
table_length = refl

row_length : (k : ℕ) → length (row k) ≤ 153
unfolding row
row_length k =
    let e = length-take (k + 1) (drop (k * (k + 1) / 2) table) in
    let g = length-drop (k * (k + 1) / 2) table in
    let l = table_length in
    omega arith

row_small : (k : ℕ) → Each (Small 100) (row k)
unfolding row
row_small k =
    each_take (Small 100) (k + 1) _ (each_drop (Small 100) (k * (k + 1) / 2) table (each_of (Small 100) (small_test 100) (small_of 100) table table_test))

nested_any : (e : Float) (cs : List Float) → Small 0 e → Each (Small 100) cs → length cs ≤ 153 → Small 300 (nested e cs)
unfolding nested Each
nested_any e [] h g l = zero_small 300
nested_any e (c ∷ cs) h (g, k) l =
    small_widen 300 (nested_small 0 100 100 e c cs h k g (lit≤ tt) (omega arith)) (omega arith)

module _ (q e : Float) (Q : Small 0 q) (E : Small 0 e) where
  polynomial_small : (k : ℕ) → Small 300 (a k e)
  unfolding a
  polynomial_small k = nested_any e (row k) E (row_small k) (row_length k)

  terms_small : (idx n : ℕ) → n ≤ 12 → Small (300 + n) (omega_over_q idx q e n)
  unfolding omega_over_q term
  terms_small idx zero l = zero_small 300
  terms_small idx (suc n) l =
      let before : Small (300 + n) (omega_over_q idx q e n) = terms_small idx n (omega arith) in
      in_both (Small (300 + suc n)) (leb idx n)
      (small_widen (300 + suc n) (small_add (small_mul before Q (omega arith)) (polynomial_small (16 - n)) (omega arith)) (omega arith))
      (small_widen (300 + suc n) before (omega arith))

  tail_small : (idx : ℕ) → Small 312 (tail idx q e)
  unfolding tail
  tail_small idx = in_both (Small 312) (ltb idx 12) (small_mul Q (terms_small idx 12 (lit≤ tt)) (lit≤ tt)) (zero_small 312)

  omega_small : (idx : ℕ) → Small 317 (omega_of (tail idx q e) q e)
  unfolding omega_of Each
  omega_small idx =
      let A : (k : ℕ) → Small 300 (a k e) = polynomial_small in
      nested_small 0 300 313 q _ _ Q (A 3, (A 2, (A 1, (A 0, tt)))) (small_add (A 4) (tail_small idx) (lit≤ tt)) (lit≤ tt) (lit≤ tt)

-- ---- the expansion
pub expansion_small : (h t : Float) → T (finite h) → T (finite t) → is_sign_minus t ≡ false → lt h eta ≡ true → lt (t ⊕ h) border ≡ true
    → (2 ^ 26 * den h ≤ num h → num t ≤ den t) → Small 317 (asymptotic_expansion_of_scaled_normalised_black h t)
unfolding asymptotic_expansion_of_scaled_normalised_black
expansion_small h t p q s l g tame =
    let (u, big) = under_eta h p l in
    let N : Near (num h) (den h) (num t) (den t) = near (num h) (den h) (num t) (den t) (den_pos h) big (under_border t h q p s u g) in
    let H = over_r h t p q s N tame h p N.to in
    let R = over_r h t p q s N tame t q (le_trans N.under (mul-le-mul_right (den t) (wider N.m))) in
    let E = t_over_h h t p q s N tame in
    small_mul R (omega_small _ _ (small_mul H H (lit≤ tt)) (small_mul E E (lit≤ tt)) _) (lit≤ tt)
  where
    wider : (m : ℕ) → m ≤ m + 12
    wider m = omega arith
