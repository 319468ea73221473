-- The bracket of explicit_black.rs: how it is found from a starting point by doubling or halving (REQUIREMENTS 10.9), and what an iteration does with
-- it (10.10). Definitions only.
use Rattle.std.specs.Prelude.{ℕ, Bool, cond, ◌&&◌, ◌||◌, Float}
use Rattle.std.specs.Float.Ieee.{lt, le, eq}
use Rattle.arithmetic.specs.Operations.{◌⊕◌, ◌⊖◌, ◌⊗◌, ◌⊘◌, bits, plus_zero, half, one, two, min_positive, max_finite}
use Rattle.arithmetic.specs.Basic.{is_finite}
use Rattle.arithmetic.specs.Exp.{exp}
use Rattle.arithmetic.specs.Ln.{ln}
use Rattle.inverse_gaussian.specs.declared.bracket.Bracket.{Bracket}
use Rattle.inverse_gaussian.specs.Counted.{Counted}
use Rattle.inverse_gaussian.specs.Loops.{Next, go, stop, Loop, iterate}
use Rattle.inverse_gaussian.specs.Curves.{inverse_gaussian_cdf}

-- QUANTILE_BRACKET_TOLERANCE, 32.0 * f64::EPSILON
abbrev pub tolerance : Float
tolerance = bits 0x3D00_0000_0000_0000

-- ---- `bracket_quantile_from_below`

-- twice x, or the largest finite value where that is not finite
unfoldable pub doubled : Float → Float
doubled x = cond (is_finite (x ⊗ two)) (x ⊗ two) max_finite

-- the bracket from x to its double, with which a doubling goes on
unfoldable pub doubled_from : Float → Bracket
doubled_from x = record { lower = x; upper = doubled x }

-- by the distribution v at the upper bound: it stops where that reaches p, or where the bound cannot be doubled
unfoldable pub widened : Float → Bracket → Float → Next Bracket Bracket
widened p b v = cond (le p v || eq b.upper max_finite) (stop b) (go (doubled_from b.upper))

-- the distribution is evaluated at the upper bound
abbrev pub doubling_loop : Float → Float → Loop Bracket Bracket
doubling_loop mu p = record {
  ask = λ x. inverse_gaussian_cdf x mu;
  point = λ b. b.upper;
  advance = widened p;
  out = λ b. b;
}

-- so many upper bounds there are at most: from the smallest value above 0, 2 ^ -1074, the last is the largest finite value
unfoldable pub doublings : ℕ
doublings = 2098

-- `bracket_quantile_from_below`, from the bracket above the starting point
unfoldable pub bracket_quantile_from_below : Float → Float → Float → Counted Bracket
bracket_quantile_from_below initial mu p = iterate (doubling_loop mu p) doublings (go (doubled_from initial))

-- ---- `bracket_quantile_from_above`

-- half of x becomes the lower bound, and is evaluated next; where it is at most the smallest normal value, the bracket is from 0
unfoldable pub halved : Float → Float → Next Bracket Bracket
halved x upper =
    cond (le (x ⊗ half) min_positive) (stop (record { lower = plus_zero; upper = upper }))
    (go (record { lower = x ⊗ half; upper = upper }))

-- by the distribution v at the lower bound: it stops where that is at most p; else twice that bound becomes the upper one, and its half the lower
unfoldable pub lowered : Float → Bracket → Float → Next Bracket Bracket
lowered p b v = cond (le v p) (stop b) (halved b.lower (b.lower ⊗ two))

-- the distribution is evaluated at the lower bound
abbrev pub halving_loop : Float → Float → Loop Bracket Bracket
halving_loop mu p = record {
  ask = λ x. inverse_gaussian_cdf x mu;
  point = λ b. b.lower;
  advance = lowered p;
  out = λ b. b;
}

-- so many lower bounds there are at most: halves, from the largest finite value, that are above the smallest normal value
unfoldable pub halvings : ℕ
halvings = 2045

-- `bracket_quantile_from_above`, from half of the starting point
unfoldable pub bracket_quantile_from_above : Float → Float → Float → Counted Bracket
bracket_quantile_from_above initial mu p = iterate (halving_loop mu p) halvings (halved initial initial)

-- ---- what an iteration of either search does with a bracket

-- `bracket_midpoint`: the geometric mean of the bounds, or half of the upper one where the lower is 0
unfoldable pub bracket_midpoint : Bracket → Float
bracket_midpoint b = cond (le b.lower plus_zero) (half ⊗ b.upper) (exp (half ⊗ (ln b.lower ⊕ ln b.upper)))

-- `bracket_is_tight`: the bounds differ by no more than the tolerance, relative to the lower one
unfoldable pub bracket_is_tight : Bracket → Bool
bracket_is_tight b = cond (le b.lower plus_zero) (le b.upper min_positive) (le (b.upper ⊘ b.lower ⊖ one) tolerance)

-- one bound moved to x: the lower one where the root is above x
unfoldable pub narrowed : Bracket → Float → Bool → Bracket
narrowed b x above = cond above (record { lower = x; upper = b.upper }) (record { lower = b.lower; upper = x })

-- finite and strictly between the bounds
abbrev pub inside : Bracket → Float → Bool
inside b x = is_finite x && (lt b.lower x && lt x b.upper)

-- the next point of a Newton step if it is inside the bracket, and else the midpoint
unfoldable pub chosen : Bracket → Float → Float
chosen b next = cond (inside b next) next (bracket_midpoint b)
