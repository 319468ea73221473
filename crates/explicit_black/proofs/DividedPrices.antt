-- Prices that are exactly 4 ^ n times each other, divided by a factor above 0 (REQUIREMENTS 14.7): where the quotients are so too, and that what follows the
-- tests is the same for them. Assumes nothing.
use Rattle.std.specs.Prelude.{◌≡◌, ℕ, suc, ◌+◌, Bool, ℤ, pos, negsuc, T, Float}
use Rattle.std.proofs.Common.{sym, ◌∙◌}
use Rattle.std.specs.Float.Ieee.{le, eq}
use Rattle.std.specs.Float.Ieee.Scale.{finite}
use Rattle.std.specs.Float.Ieee.Positive.{num, positive}
use Rattle.arithmetic.specs.Operations.{◌⊘◌, plus_zero}
use Rattle.arithmetic.specs.Laws.ScaledProducts.{quotient_times}
use Rattle.bs_option_price.specs.Laws.Moneyness.{BoundedRatio}
use Rattle.explicit_black.specs.Price.{AboveOrZero, BothAboveOrZero}
use Rattle.explicit_black.specs.Demand.{Exactly, ComparableTimes}
use Rattle.explicit_black.specs.Laws.Price.{one_of, times_up, times_down, turned, flipped}
use Rattle.explicit_black.specs.Laws.Demand.{times_tested, after_tests, Related, related_times, vanish, upward, downward, exactly_down}
use Rattle.explicit_black.specs.Laws.DividedPrices.{zero_quotient, zeros_exactly, scaled_up_figures, divided_values}
use Rattle.explicit_black.proofs.Demand.{exactly_up, same_figures}

-- ---- over a factor above 0: so are the quotients, where both are finite, and both above 2 ^ -1022 or both 0
pub divided_exactly : (n : ℤ) (p p' d : Float) → T (positive d) → Exactly n p p' → BothAboveOrZero (p ⊘ d) (p' ⊘ d) → Exactly n (p ⊘ d) (p' ⊘ d)
divided_exactly n p p' d D e h = go n e
  where
    vanishing : (n : ℤ) → T (finite p) → T (finite p') → num p ≡ 0 → num p' ≡ 0 → Exactly n (p ⊘ d) (p' ⊘ d)
    vanishing n P P' z z' = zeros_exactly n _ _ h.first_finite h.second_finite (zero_quotient p d P D z).vanishes (zero_quotient p' d P' D z').vanishes

    up : (n : ℕ) → T (finite p) → T (finite p') → Related (n + n) p p' → Exactly (pos n) (p ⊘ d) (p' ⊘ d)
    up n P P' (vanish z z') = vanishing (pos n) P P' z z'
    up n P P' (related_times g) =
        times_up n _ _ (quotient_times (n + n) p p' d g D h.first_finite h.second_finite (one_of h.above_or_zero))

    down : (n : ℕ) → T (finite p) → T (finite p') → Related (suc n + suc n) p' p → Exactly (negsuc n) (p ⊘ d) (p' ⊘ d)
    down n P P' (vanish z z') = vanishing (negsuc n) P P' z' z
    down n P P' (related_times g) =
        times_down n _ _
        (quotient_times (suc n + suc n) p' p d g D h.second_finite h.first_finite (one_of (flipped (p ⊘ d) (p' ⊘ d) h).above_or_zero))

    go : (n : ℤ) → Exactly n p p' → Exactly n (p ⊘ d) (p' ⊘ d)
    go (pos n) e = up n e.finite_x e.finite_y (upward n p p' e)
    go (negsuc n) e = down n e.finite_x e.finite_y (downward n p p' e)

-- ---- what follows the tests
pub scaled_figures : (n : ℤ) (p f k t p' f' k' t' d : Float) → T (positive d) → BoundedRatio f k → BoundedRatio f' k' → ComparableTimes t t' → T (le plus_zero p)
    → T (le plus_zero p') → Exactly n p p' → Exactly n f f' → Exactly n k k' → AboveOrZero (p ⊘ d) (p' ⊘ d) → (call : Bool)
    → after_tests call (p' ⊘ d) f' k' t' ≡ after_tests call (p ⊘ d) f k t
scaled_figures n p f k t p' f' k' t' d D h h' w o o' x g i b call = go n x g i exact
  where
    time : eq t' plus_zero ≡ eq t plus_zero
    time = let (z, u, v) = times_tested t t' w in v.is_zero ∙ sym u.is_zero

    exact : T (finite (p ⊘ d)) → T (finite (p' ⊘ d)) → after_tests call (p' ⊘ d) f' k' t' ≡ after_tests call (p ⊘ d) f k t
    exact q q' =
        let e = divided_exactly n p p' d D x (record { first_finite = q; second_finite = q'; above_or_zero = b }) in
        let values = divided_values p f k d D x.finite_x o q h in
        let values' = divided_values p' f' k' d D x.finite_y o' q' h' in
        same_figures (p ⊘ d) f k t (p' ⊘ d) f' k' t' values values' w n call e g i

    go : (n : ℤ) → Exactly n p p' → Exactly n f f' → Exactly n k k'
        → (T (finite (p ⊘ d)) → T (finite (p' ⊘ d)) → after_tests call (p' ⊘ d) f' k' t' ≡ after_tests call (p ⊘ d) f k t)
        → after_tests call (p' ⊘ d) f' k' t' ≡ after_tests call (p ⊘ d) f k t
    go (pos n) x g i exact =
        let hf = exactly_up n f f' h.forward g in
        let hk = exactly_up n k k' h.strike i in
        scaled_up_figures n p f k t p' f' k' t' d D h h' hf hk call x.finite_x x.finite_y o (upward n p p' x) time b exact
    go (negsuc n) x g i exact =
        let hf = exactly_down n f f' h'.forward g in
        let hk = exactly_down n k k' h'.strike i in
        sym (scaled_up_figures (suc n) p' f' k' t' p f k t d D h' h hf hk call x.finite_y x.finite_x o' (downward n p p' x) (sym time)
        (turned (p ⊘ d) (p' ⊘ d) b)
        (λ q' q. sym (exact q q')))
