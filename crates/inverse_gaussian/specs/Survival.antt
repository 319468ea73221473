-- `inverse_gaussian_quantile_from_survival`: the quantile from the probability p of the upper tail (REQUIREMENTS 10.11). Definitions only.
use Rattle.std.specs.Prelude.{Bool, cond, ◌&&◌, Float}
use Rattle.std.specs.Float.Ieee.{neg, lt, le, eq}
use Rattle.arithmetic.specs.Operations.{◌⊕◌, ◌⊖◌, ◌⊗◌, ◌⊘◌, plus_zero, half, one, two, max_finite}
use Rattle.arithmetic.specs.Basic.{abs, min}
use Rattle.arithmetic.specs.Ln.{ln}
use Rattle.special_function.specs.NormalDistribution.{inverse_norm_cdf}
use Rattle.inverse_gaussian.specs.declared.bracket.Bracket.{Bracket}
use Rattle.inverse_gaussian.specs.Counted.{Option, some, none, Counted, at_once, tick, then, some_of}
use Rattle.inverse_gaussian.specs.Loops.{Next, go, stop, Loop, iterate}
use Rattle.inverse_gaussian.specs.Curves.{finite_positive, inverse_gaussian_survival, inverse_gaussian_pdf}
use Rattle.inverse_gaussian.specs.Curves.{inverse_gaussian_quantile_initial_guess_from_z, starting_point}
use Rattle.inverse_gaussian.specs.Bracket.{tolerance, doublings, halved, halvings, bracket_midpoint, bracket_is_tight, narrowed, chosen}
use Rattle.inverse_gaussian.specs.Quantile.{solvable}

-- ---- the doubling, which finds no bracket where the survival is above p at the largest finite value too

-- the bracket from x to its double, which is at most the largest finite value
unfoldable pub capped_from : Float → Bracket
capped_from x = record { lower = x; upper = min (x ⊗ two) max_finite }

-- by the survival v at the upper bound: it stops where that is at most p, or without a bracket where the bound cannot be doubled
unfoldable pub survival_widened : Float → Bracket → Float → Next Bracket (Option Bracket)
survival_widened p b v =
    cond (le v p) (stop (some b))
    (cond (eq b.upper max_finite) (stop none)
    (go (capped_from b.upper)))

-- the survival is evaluated at the upper bound
abbrev pub survival_doubling_loop : Float → Float → Loop Bracket (Option Bracket)
survival_doubling_loop mu p = record {
  ask = λ x. inverse_gaussian_survival x mu;
  point = λ b. b.upper;
  advance = survival_widened p;
  out = λ b. none;
}

-- from the bracket above the starting point
unfoldable pub survival_from_below : Float → Float → Float → Counted (Option Bracket)
survival_from_below initial mu p = iterate (survival_doubling_loop mu p) doublings (go (capped_from initial))

-- ---- the halving

-- by the survival v at the lower bound: it stops where that is at least p; else that bound becomes the upper one, and its half the lower
unfoldable pub survival_lowered : Float → Bracket → Float → Next Bracket Bracket
survival_lowered p b v = cond (le p v) (stop b) (halved b.lower b.lower)

-- the survival is evaluated at the lower bound
abbrev pub survival_halving_loop : Float → Float → Loop Bracket Bracket
survival_halving_loop mu p = record {
  ask = λ x. inverse_gaussian_survival x mu;
  point = λ b. b.lower;
  advance = survival_lowered p;
  out = λ b. b;
}

-- from half of the starting point
unfoldable pub survival_from_above : Float → Float → Float → Counted Bracket
survival_from_above initial mu p = iterate (survival_halving_loop mu p) halvings (halved initial initial)

-- the bracket on the side of x to which the survival v there points
unfoldable pub survival_bracket_at : Float → Float → Float → Float → Counted (Option Bracket)
survival_bracket_at x v mu p = cond (lt p v) (survival_from_below x mu p) (some_of (survival_from_above x mu p))

-- ---- the iterations

-- the survival v is above 0, and differs from p by more than half of p
abbrev pub far : Float → Float → Bool
far v p = lt plus_zero v && lt half (abs (v ⊘ p ⊖ one))

-- the Newton step on the survival v, or on its logarithm where that is far from p
unfoldable pub survival_step : Float → Float → Float → Float
survival_step v p pdf = cond (far v p) ((ln v ⊖ ln p) ⊗ (v ⊘ pdf)) ((v ⊖ p) ⊘ pdf)

-- the step, or none where the density is not finite and positive
unfoldable pub survival_newton : Float → Float → Float → Option Float
survival_newton v p pdf = cond (finite_positive pdf) (some (survival_step v p pdf)) none

-- by the Newton step at x: x plus the step is the root where the step is small, and else the next point if the bracket holds it
unfoldable pub survival_moved : Bracket → Float → Option Float → Next (Bracket × Float) Float
survival_moved b x (some step) = cond (le (abs step) (tolerance ⊗ x)) (stop (x ⊕ step)) (go (b, chosen b (x ⊕ step)))
survival_moved b x none = go (b, bracket_midpoint b)

-- in the bracket that was narrowed at x: where it is tight, its midpoint is the root
unfoldable pub survival_tight_or : Float → Float → Bracket → Float → Float → Next (Bracket × Float) Float
survival_tight_or pdf p b x v = cond (bracket_is_tight b) (stop (bracket_midpoint b)) (survival_moved b x (survival_newton v p pdf))

-- one iteration, from the bracket and the point of s, where the density is pdf and the survival v
unfoldable pub survival_iteration : Float → Float → Bracket × Float → Float → Next (Bracket × Float) Float
survival_iteration pdf p s v =
    let error = v ⊖ p in
    cond (eq error plus_zero) (stop s.1) (survival_tight_or pdf p (narrowed s.0 s.1 (lt plus_zero error)) s.1 v)

-- the survival is evaluated at the point; after the last iteration the midpoint is the root
abbrev pub survival_iteration_loop : Float → Float → Loop (Bracket × Float) Float
survival_iteration_loop mu p = record {
  ask = λ x. inverse_gaussian_survival x mu;
  point = λ s. s.1;
  advance = λ s v. survival_iteration (inverse_gaussian_pdf s.1 mu) p s v;
  out = λ s. bracket_midpoint s.0;
}

-- at most 64 iterations, which is MAX_QUANTILE_ITERATIONS
unfoldable pub survival_iterations : Float → Float → Bracket → Float → Counted Float
survival_iterations mu p b x = iterate (survival_iteration_loop mu p) 64 (go (b, x))

-- ---- the whole search: one evaluation at the starting point, the search for a bracket, the iterations

-- the iterations, if there is a bracket
unfoldable pub survival_iterations_in : Float → Float → Float → Option Bracket → Counted (Option Float)
survival_iterations_in mu p x (some b) = some_of (survival_iterations mu p b x)
survival_iterations_in mu p x none = at_once none

-- its starting point is from the upper tail's z, and is not clamped
unfoldable pub survival_search : Float → Float → Counted (Option Float)
survival_search p mu =
    let x = starting_point (inverse_gaussian_quantile_initial_guess_from_z (neg (inverse_norm_cdf p)) mu) mu in
    tick (then (survival_bracket_at x (inverse_gaussian_survival x mu) mu p) (survival_iterations_in mu p x))

-- none where there is no quantile to look for
unfoldable pub inverse_gaussian_quantile_from_survival : Float → Float → Counted (Option Float)
inverse_gaussian_quantile_from_survival probability mu = cond (solvable probability mu) (survival_search probability mu) (at_once none)
