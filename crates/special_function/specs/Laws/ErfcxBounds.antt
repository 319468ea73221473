-- `erfcx_cody` is finite for arguments of size 8 at most: the divisors are polynomials with coefficients above 0, at arguments that are not negative.
-- Assumes nothing.
use Rattle.std.specs.Prelude.{◌≡◌, refl, true, false, ℕ, ◌+◌, ◌*◌, ◌/◌, ◌%◌, ◌^◌, ◌≤◌, ◌<◌, T, Float}
use Rattle.std.proofs.Common.{sym, ◌∙◌, subst, inl, inr, true≢false, le_trans, le_of_eq, le_of_lt, le_of_mul-le-mul_right, mul-one, div-add-mod', arith, le-ltb, lit≤, pow_pos}
use Rattle.std.specs.Float.{nan, inf, fin}
use Rattle.std.specs.Float.Ieee.{up, down, lt, le, of_bits}
use Rattle.std.specs.Float.Ieee.Bits.{is_true}
use Rattle.std.specs.Float.Ieee.Exact.{HasValue}
use Rattle.std.specs.Float.Ieee.Order.{le_of_values}
use Rattle.std.specs.Float.Ieee.Positive.{num, den, den_pos}
use Rattle.arithmetic.specs.Operations.{◌⊗◌, bits, plus_zero, one, two}
use Rattle.arithmetic.specs.Basic.{is_sign_minus, abs, trunc, recip}
use Rattle.arithmetic.specs.Laws.Numbers.{lt_or_le}
use Rattle.arithmetic.specs.Laws.Times.{of_cross}
use Rattle.arithmetic.specs.Laws.Choices.{in_both, by_test}
use Rattle.special_function.specs.Polynomial.{◌at◌, part}
use Rattle.special_function.specs.ErrorFunction.{A, B, C, D, P, Q, ab, cd, pq, smoothened_exponential_of_positive_square, four, threshold, xneg}
use Rattle.special_function.specs.ErrorFunction.{one_over_sqrt_pi, erfcx_cody_above_threshold, erfcx_cody}
use Rattle.arithmetic.specs.Laws.Sizes.{Size, size_round, size_mul, size_add, size_sub}
use Rattle.arithmetic.specs.Laws.PowerBounds.{size_small, Small, small_widen, small_neg, small_mul, small_add, small_sub, small_div, Plus, small_square}
use Rattle.arithmetic.specs.Laws.PowerBounds.{plus_div, Between, between_widen, between_add, between_square, small_test, between_test, small_of, between_of}
use Rattle.arithmetic.specs.Laws.PowerBounds.{plus_mul}
use Rattle.special_function.specs.Laws.PolynomialBounds.{each_small, each_between, each_test, evaluate_small, evaluate_between}
use Rattle.arithmetic.specs.Laws.ExpBounds.{trunc_is, exp_small}

-- ---- coefficients
tests : T (each_test (small_test 12) (part A 1 4)) × T (each_test (between_test 0 12) (part B 1 4)) × T (each_test (small_test 12) (part C 0 8))
    × T (each_test (between_test 0 13) (part D 1 8)) × T (each_test (small_test 0) (part P 0 5)) × T (each_test (between_test 9 2) (part Q 1 5))
unfolding each_test of_bits
tests = (tt, tt, tt, tt, tt, tt)

-- ---- the rational functions
ab_small : (z : Float) → Plus 6 z → Small 33 (ab z)
unfolding ab of_bits
ab_small z h =
    small_div
    (evaluate_small 6 12 12 z (part A 1 4) _ h.small (each_small 12 _ tests.0)
    (small_widen 12 (small_add (small_mul h.small (small_of 0 (A at 4) tt) (lit≤ tt)) (small_of 2 (A at 0) tt) (lit≤ tt)) (lit≤ tt)) (lit≤ tt) (lit≤ tt))
    (evaluate_between 0 6 12 12 z (part B 1 4) _ h (each_between 0 12 _ tests.1)
    (between_widen 12 (between_add (plus_mul h (between_of 0 0 one tt).plus (lit≤ tt)) (between_of 0 5 (B at 0) tt) (lit≤ tt) (lit≤ tt)) (lit≤ tt)) (lit≤ tt)
    (lit≤ tt) (lit≤ tt))
    (lit≤ tt)

pub cd_small : (y : Float) → Plus 3 y → Small 44 (cd y)
unfolding cd of_bits
cd_small y h =
    small_div
    (evaluate_small 3 12 12 y (part C 0 8) (C at 8) h.small (each_small 12 _ tests.2) (small_of 12 (C at 8) tt) (lit≤ tt) (lit≤ tt))
    (evaluate_between 0 3 13 13 y (part D 1 8) _ h (each_between 0 13 _ tests.3)
    (between_widen 13 (between_add h (between_of 0 4 (D at 0) tt) (lit≤ tt) (lit≤ tt)) (lit≤ tt)) (lit≤ tt) (lit≤ tt) (lit≤ tt))
    (lit≤ tt)

pub pq_small : (z : Float) → Plus 0 z → Small 14 (pq z)
unfolding pq of_bits
pq_small z h =
    small_div
    (small_mul h.small
    (evaluate_small 0 0 0 z (part P 0 5) (P at 5) h.small (each_small 0 _ tests.4) (small_of 0 (P at 5) tt) (lit≤ tt) (lit≤ tt)) (lit≤ tt))
    (evaluate_between 9 0 2 3 z (part Q 1 5) _ h (each_between 9 2 _ tests.5)
    (between_add h (between_of 9 2 (Q at 0) tt) (lit≤ tt) (lit≤ tt)) (lit≤ tt) (lit≤ tt) (lit≤ tt))
    (lit≤ tt)

-- ---- above four
four_value : HasValue four false 4 1
unfolding of_bits
four_value = (refl, refl)

pub past_four : (y : Float) → Plus 3 y → le y four ≡ false → 4 * den y ≤ num y
past_four y h l = elim (lt_or_le (num y) (4 * den y)) [
  | inl k ↦ absurd (true≢false (sym (is_true (le y four)
      (le_of_values y four (num y) (den y) 4 1 (den_pos y) (pow_pos 0) (of_cross y false (num y) (den y) h.small.is_finite_lem h.sign refl) four_value
      (le_trans (le_of_eq (mul-one (num y))) (le_of_lt k)))) ∙ l))
  | inr k ↦ k
]

-- ---- the exponential of a square
trunc_size : (a : ℕ) (x : Float) → Size a x → a < 2 ^ 53 → Size a (trunc x)
trunc_size a x h A =
    subst (Size a) (sym (trunc_is x h.is_finite_lem))
    (size_round (is_sign_minus x) (num x / den x) 1 a (pow_pos 0) A
    (go (num x / den x) (num x % den x) (num x) (den x) (den_pos x) (div-add-mod' (num x) (den x)) h.bound))
  where
    go : (n r b d : ℕ) → 0 < d → n * d + r ≡ b → b * 64 ≤ a * d → n * 64 ≤ a * 1
    go n r b d D e g = le_trans (le_of_mul-le-mul_right (less n r b d e g) D) (le_of_eq (sym (mul-one a)))
      where
        less : (n r b d : ℕ) → n * d + r ≡ b → b * 64 ≤ a * d → n * 64 * d ≤ a * d
        less n r b d e g = omega arith

smoothened_small : (x : Float) → Size 512 x → Small 800 (smoothened_exponential_of_positive_square x)
unfolding smoothened_exponential_of_positive_square of_bits
smoothened_small x h =
    let sixteen : Size 1024 (bits 0x4030_0000_0000_0000) = record { is_finite_lem = tt; bound = lit≤ tt } in
    let sixteenth : Size 4 (bits 0x3FB0_0000_0000_0000) = record { is_finite_lem = tt; bound = lit≤ tt } in
    let t : Size 512 (trunc (x ⊗ bits 0x4030_0000_0000_0000) ⊗ bits 0x3FB0_0000_0000_0000) =
    size_mul 512 (trunc_size 8192 _ (size_mul 8192 h sixteen (lit≤ tt) (lit≤ tt)) (lit≤ tt)) sixteenth (lit≤ tt) (lit≤ tt) in
    small_mul (exp_small _ (size_small 8 (size_mul 4096 t t (lit≤ tt) (lit≤ tt)) (lit≤ tt)))
    (exp_small _ (size_small 8 (size_mul 16384 (size_sub h t (lit≤ tt)) (size_add h t (lit≤ tt)) (lit≤ tt) (lit≤ tt)) (lit≤ tt))) (lit≤ tt)

-- ---- the law
plus_abs : {k : ℕ} (x : Float) → Small k x → Plus k (abs x)
unfolding abs
plus_abs nan h = absurd h.is_finite_lem
plus_abs (inf s) h = absurd h.is_finite_lem
plus_abs (fin s m e) h = record { small = record { is_finite_lem = tt; bound = h.bound }; sign = refl }

not_far : (x : Float) → Small 3 x → lt x xneg ≡ false
unfolding lt of_bits
not_far nan h = absurd h.is_finite_lem
not_far (inf s) h = absurd h.is_finite_lem
not_far (fin false m e) h = refl
not_far (fin true m e) h = le-ltb (num xneg * down e) (m * up e * den xneg) (go (m * up e) (down e) h.bound)
  where
    go : (n d : ℕ) → n ≤ 2 ^ 3 * d → n * den xneg ≤ num xneg * d
    go n d h = omega arith

pub erfcx_small : (x : Float) → Small 3 x → Small 802 (erfcx_cody x)
unfolding erfcx_cody erfcx_cody_above_threshold of_bits
erfcx_small x h =
    let y : Plus 3 (abs x) = plus_abs x h in
    let z : Plus 6 (abs x ⊗ abs x) = small_square y.small (lit≤ tt) in
    let a : Small 44 (erfcx_cody_above_threshold (abs x)) = above_small (abs x) y in
    let X : Size 512 x = record { is_finite_lem = h.is_finite_lem; bound = wide (num x) (den x) h.bound } in
    in_both (Small 802) (le (abs x) threshold)
    (small_widen 802
    (small_mul (exp_small _ (small_widen 8 z.small (lit≤ tt)))
    (small_add (small_mul (small_neg (ab_small _ z)) h (lit≤ tt)) (small_of 0 one tt) (lit≤ tt)) (lit≤ tt)) (lit≤ tt))
    (rw (not_far x h)
    (in_both (Small 802) (lt x plus_zero)
    (small_add (small_mul (smoothened_small x X) (small_of 1 two tt) (lit≤ tt)) (small_neg a) (lit≤ tt))
    (small_widen 802 a (lit≤ tt))))
  where
    wide : (n d : ℕ) → n ≤ 2 ^ 3 * d → n * 64 ≤ 512 * d
    wide n d h = omega arith

    -- above the threshold
    above_small : (y : Float) → Plus 3 y → Small 44 (erfcx_cody_above_threshold y)
    above_small y h =
        by_test (Small 44) (le y four) (λ e. cd_small y h)
        (λ e.
        let l : den y ≤ num y * 2 ^ 0 = omega (arith, past_four y h e) in
        let Y : Between 0 3 y = record { plus = h; least = l } in
        let z : Plus 0 (recip (y ⊗ y)) = plus_div (between_of 0 0 one tt).plus (between_square 0 h.small l (lit≤ tt) (lit≤ tt)) (lit≤ tt) in
        small_widen 44 (small_div (small_sub (small_of 0 one_over_sqrt_pi tt) (pq_small (recip (y ⊗ y)) z) (lit≤ tt)) Y (lit≤ tt)) (lit≤ tt))
