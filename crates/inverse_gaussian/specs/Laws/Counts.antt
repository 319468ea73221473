-- How many evaluations each search makes at most: the bounds of REQUIREMENTS 10.5. Assumes nothing.
use Rattle.std.specs.Prelude.{ℕ, ◌≤◌, Float}
use Rattle.std.proofs.Common.{arith}
use Rattle.std.specs.Float.Ieee.{neg, lt}
use Rattle.arithmetic.specs.Ln.{ln}
use Rattle.arithmetic.specs.Laws.Choices.{in_both}
use Rattle.special_function.specs.NormalDistribution.{inverse_norm_cdf}
use Rattle.inverse_gaussian.specs.declared.bracket.Bracket.{Bracket}
use Rattle.inverse_gaussian.specs.Counted.{Option, some, none, Counted, or_else}
use Rattle.inverse_gaussian.specs.Loops.{go}
use Rattle.inverse_gaussian.specs.Curves.{inverse_gaussian_cdf, inverse_gaussian_survival}
use Rattle.inverse_gaussian.specs.Curves.{inverse_gaussian_quantile_initial_guess, inverse_gaussian_quantile_initial_guess_from_z, starting_point}
use Rattle.inverse_gaussian.specs.Bracket.{doubling_loop, doublings, doubled_from, bracket_quantile_from_below}
use Rattle.inverse_gaussian.specs.Bracket.{halving_loop, halvings, halved, bracket_quantile_from_above}
use Rattle.inverse_gaussian.specs.Newton.{newton_loop, initial_x, first, steps}
use Rattle.inverse_gaussian.specs.Newton.{inverse_gaussian_cdf_standardized, inverse_gaussian_nrstep_standardized, inverse_gaussian_quantile_actuar}
use Rattle.inverse_gaussian.specs.Quantile.{bracket_at, clamped, iteration_loop, iterations, inverse_gaussian_quantile_bracketed}
use Rattle.inverse_gaussian.specs.Quantile.{solvable, filtered, inverse_gaussian_quantile}
use Rattle.inverse_gaussian.specs.Survival.{survival_doubling_loop, capped_from, survival_from_below, survival_halving_loop, survival_from_above}
use Rattle.inverse_gaussian.specs.Survival.{survival_bracket_at, survival_iteration_loop, survival_iterations, survival_iterations_in, survival_search}
use Rattle.inverse_gaussian.specs.Survival.{inverse_gaussian_quantile_from_survival}
use Rattle.inverse_gaussian.specs.Laws.Counted.{count_le}

abbrev AtMost : {R : Type 0} → ℕ → Counted R → Type 0
AtMost k c = c.count ≤ k

-- ---- the searches for a bracket: by doubling, and by halving, which makes fewer

pub from_below_count : (x mu p : Float) → (bracket_quantile_from_below x mu p).count ≤ 2098
unfolding bracket_quantile_from_below doublings
from_below_count x mu p = count_le (doubling_loop mu p) doublings (go (doubled_from x))

pub from_above_count : (x mu p : Float) → (bracket_quantile_from_above x mu p).count ≤ 2045
unfolding bracket_quantile_from_above halvings
from_above_count x mu p = count_le (halving_loop mu p) halvings (halved x x)

survival_from_below_count : (x mu p : Float) → (survival_from_below x mu p).count ≤ 2098
unfolding survival_from_below doublings
survival_from_below_count x mu p = count_le (survival_doubling_loop mu p) doublings (go (capped_from x))

survival_from_above_count : (x mu p : Float) → (survival_from_above x mu p).count ≤ 2045
unfolding survival_from_above halvings
survival_from_above_count x mu p = count_le (survival_halving_loop mu p) halvings (halved x x)

bracket_count : (x v mu p : Float) → (bracket_at x v mu p).count ≤ 2098
unfolding bracket_at
bracket_count x v mu p = in_both (AtMost 2098) (lt v p) (from_below_count x mu p) (omega (arith, from_above_count x mu p))

survival_bracket_count : (x v mu p : Float) → (survival_bracket_at x v mu p).count ≤ 2098
unfolding survival_bracket_at
survival_bracket_count x v mu p = in_both (AtMost 2098) (lt p v) (survival_from_below_count x mu p) (omega (arith, survival_from_above_count x mu p))

-- ---- the iterations in a bracket

iterations_count : (mu p : Float) (b : Bracket) (x : Float) → (iterations mu p b x).count ≤ 64
unfolding iterations
iterations_count mu p b x = count_le (iteration_loop mu p) 64 (go (b, x))

survival_iterations_count : (mu p : Float) (b : Bracket) (x : Float) → (survival_iterations mu p b x).count ≤ 64
unfolding survival_iterations
survival_iterations_count mu p b x = count_le (survival_iteration_loop mu p) 64 (go (b, x))

-- ---- the Newton steps

pub newton_count : (p mu : Float) → (inverse_gaussian_quantile_actuar p mu).count ≤ 100
unfolding inverse_gaussian_quantile_actuar steps
newton_count p mu =
    let x = initial_x p (ln p) mu in
    let step = inverse_gaussian_nrstep_standardized x (inverse_gaussian_cdf_standardized x mu) p (ln p) mu in
    omega (arith, count_le (newton_loop p (ln p) mu) 99 (first mu x step))

-- ---- the whole searches: one evaluation at the starting point, the bracket and the iterations; and the Newton steps before them

pub bracketed_count : (p mu : Float) → (inverse_gaussian_quantile_bracketed p mu).count ≤ 2163
unfolding inverse_gaussian_quantile_bracketed
bracketed_count p mu =
    let x = starting_point (inverse_gaussian_quantile_initial_guess p mu) mu in
    let c = bracket_at x (inverse_gaussian_cdf x mu) mu p in
    omega (arith, bracket_count x (inverse_gaussian_cdf x mu) mu p, iterations_count mu p c.result (clamped c.result x))

else_count : (t : Option Float) (c : Counted Float) (k : ℕ) → c.count ≤ k → (or_else t c).count ≤ k
unfolding or_else
else_count (some x) c k h = omega arith
else_count none c k h = h

pub quantile_count : (p mu : Float) → (inverse_gaussian_quantile p mu).count ≤ 2263
unfolding inverse_gaussian_quantile
quantile_count p mu =
    let a = inverse_gaussian_quantile_actuar p mu in
    let b = inverse_gaussian_quantile_bracketed p mu in
    let both = else_count (filtered a.result) b 2163 (bracketed_count p mu) in
    in_both (AtMost 2263) (solvable p mu) (omega (arith, newton_count p mu)) (omega arith)

in_count : (mu p x : Float) (t : Option Bracket) → (survival_iterations_in mu p x t).count ≤ 64
unfolding survival_iterations_in
in_count mu p x (some b) = survival_iterations_count mu p b x
in_count mu p x none = omega arith

search_count : (p mu : Float) → (survival_search p mu).count ≤ 2163
unfolding survival_search
search_count p mu =
    let x = starting_point (inverse_gaussian_quantile_initial_guess_from_z (neg (inverse_norm_cdf p)) mu) mu in
    let c = survival_bracket_at x (inverse_gaussian_survival x mu) mu p in
    omega (arith, survival_bracket_count x (inverse_gaussian_survival x mu) mu p, in_count mu p x c.result)

pub from_survival_count : (p mu : Float) → (inverse_gaussian_quantile_from_survival p mu).count ≤ 2163
unfolding inverse_gaussian_quantile_from_survival
from_survival_count p mu = in_both (AtMost 2163) (solvable p mu) (search_count p mu) (omega arith)
