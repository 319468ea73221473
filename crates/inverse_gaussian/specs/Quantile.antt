-- `inverse_gaussian_quantile`, Newton steps first, and `inverse_gaussian_quantile_bracketed`, a safeguarded search in a bracket (REQUIREMENTS 10.9 and
-- 10.10). Definitions only.
use Rattle.std.specs.Prelude.{Bool, cond, ◌&&◌, Float}
use Rattle.std.specs.Float.Ieee.{lt, le, eq}
use Rattle.arithmetic.specs.Operations.{◌⊖◌, ◌⊗◌, plus_zero, one, min_positive}
use Rattle.arithmetic.specs.Basic.{abs, max}
use Rattle.inverse_gaussian.specs.declared.bracket.Bracket.{Bracket}
use Rattle.inverse_gaussian.specs.Counted.{Option, some, none, Counted, at_once, tick, then, some_of, or_else}
use Rattle.inverse_gaussian.specs.Loops.{Next, go, stop, Loop, iterate}
use Rattle.inverse_gaussian.specs.Curves.{finite_positive, inverse_gaussian_cdf, inverse_gaussian_pdf, inverse_gaussian_quantile_initial_guess, starting_point}
use Rattle.inverse_gaussian.specs.Bracket.{tolerance, bracket_midpoint, bracket_is_tight, narrowed, chosen}
use Rattle.inverse_gaussian.specs.Bracket.{bracket_quantile_from_below, bracket_quantile_from_above}
use Rattle.inverse_gaussian.specs.Newton.{nrstep, inverse_gaussian_quantile_actuar}

-- ---- `inverse_gaussian_quantile_bracketed`

-- the bracket on the side of x to which the distribution v there points
unfoldable pub bracket_at : Float → Float → Float → Float → Counted Bracket
bracket_at x v mu p = cond (lt v p) (bracket_quantile_from_below x mu p) (bracket_quantile_from_above x mu p)

-- The source's `clamp` (REQUIREMENTS 4.1). What x is raised to: the lower bound, or the smallest normal value where that is 0.
abbrev pub floor : Bracket → Float
floor b = cond (lt plus_zero b.lower) b.lower min_positive

-- x, raised to the floor where it is below that
abbrev pub raised : Bracket → Float → Float
raised b x = cond (lt x (floor b)) (floor b) x

-- and then cut to the upper bound
unfoldable pub clamped : Bracket → Float → Float
clamped b x = cond (lt b.upper (raised b x)) b.upper (raised b x)

-- on to the next point; where that is x again, the midpoint is the root
unfoldable pub continue_at : Bracket → Float → Float → Next (Bracket × Float) Float
continue_at b x next = cond (eq next x) (stop (bracket_midpoint b)) (go (b, next))

-- by the Newton step at x: x less the step is the root where the step is small, and else the next point if the bracket holds it
unfoldable pub moved : Bracket → Float → Option Float → Next (Bracket × Float) Float
moved b x (some step) = cond (le (abs step) (tolerance ⊗ max x one)) (stop (x ⊖ step)) (continue_at b x (chosen b (x ⊖ step)))
moved b x none = continue_at b x (bracket_midpoint b)

-- in the bracket that was narrowed at x: where it is tight, its midpoint is the root
unfoldable pub tight_or : Float → Bracket → Float → Float → Next (Bracket × Float) Float
tight_or pdf b x error = cond (bracket_is_tight b) (stop (bracket_midpoint b)) (moved b x (nrstep pdf error))

-- one iteration, from the bracket and the point of s, where the density is pdf and the distribution v
unfoldable pub iteration : Float → Float → Bracket × Float → Float → Next (Bracket × Float) Float
iteration pdf p s v =
    let error = v ⊖ p in
    cond (eq error plus_zero) (stop s.1) (tight_or pdf (narrowed s.0 s.1 (le error plus_zero)) s.1 error)

-- the distribution is evaluated at the point; after the last iteration the midpoint is the root
abbrev pub iteration_loop : Float → Float → Loop (Bracket × Float) Float
iteration_loop mu p = record {
  ask = λ x. inverse_gaussian_cdf x mu;
  point = λ s. s.1;
  advance = λ s v. iteration (inverse_gaussian_pdf s.1 mu) p s v;
  out = λ s. bracket_midpoint s.0;
}

-- at most 64 iterations, which is MAX_QUANTILE_ITERATIONS
unfoldable pub iterations : Float → Float → Bracket → Float → Counted Float
iterations mu p b x = iterate (iteration_loop mu p) 64 (go (b, x))

-- one evaluation at the starting point, the search for a bracket, the iterations from the clamped starting point
unfoldable pub inverse_gaussian_quantile_bracketed : Float → Float → Counted Float
inverse_gaussian_quantile_bracketed probability mu =
    let x = starting_point (inverse_gaussian_quantile_initial_guess probability mu) mu in
    tick (then (bracket_at x (inverse_gaussian_cdf x mu) mu probability) (λ b. iterations mu probability b (clamped b x)))

-- ---- `inverse_gaussian_quantile`

-- the probability is strictly between 0 and 1, and mu is finite and above 0
abbrev pub solvable : Float → Float → Bool
solvable probability mu = lt plus_zero probability && (lt probability one && finite_positive mu)

-- the root of the Newton steps if it is finite and positive
unfoldable pub filtered : Option Float → Option Float
filtered (some x) = cond (finite_positive x) (some x) none
filtered none = none

-- none where there is no quantile to look for; else the root of the Newton steps, or where they give none that of the bracketed search
unfoldable pub inverse_gaussian_quantile : Float → Float → Counted (Option Float)
inverse_gaussian_quantile probability mu =
    cond (solvable probability mu)
    (some_of (then (inverse_gaussian_quantile_actuar probability mu) (λ t. or_else (filtered t) (inverse_gaussian_quantile_bracketed probability mu))))
    (at_once none)
