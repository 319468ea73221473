-- A search in a bracket for the point where a curve has a probability, for either curve; the contracts of the code that serves both cite it. For the
-- distribution it is the search of Quantile.antt, and for the survival that of Survival.antt, as proofs/Agree.antt proves. Definitions only.
use Rattle.std.specs.Prelude.{◌≡◌, true, Bool, cond, Float}
use Rattle.std.specs.Float.{binary64}
use Rattle.std.specs.Float.Ieee.{lt, fits}
use Rattle.inverse_gaussian.specs.declared.bracket.Bracket.{Bracket}
use Rattle.inverse_gaussian.specs.Counted.{Option, some, none, Counted, at_once, tick, then, some_of}
use Rattle.inverse_gaussian.specs.Loops.{Next, go, stop, Loop, iterate, Ends}
use Rattle.inverse_gaussian.specs.Curves.{finite_positive, inverse_gaussian_cdf, inverse_gaussian_survival, inverse_gaussian_pdf}
use Rattle.inverse_gaussian.specs.Bracket.{doubled_from, widened, doublings, halved, lowered, halvings, bracket_midpoint}
use Rattle.inverse_gaussian.specs.Quantile.{clamped, iteration}
use Rattle.inverse_gaussian.specs.Survival.{capped_from, survival_widened, survival_lowered, survival_iteration}

-- a curve, and what a search makes of its values
pub record Rules : Type 0 where
  -- the curve at a point, where the mean is mu
  pub curve : Float → Float → Float
  -- whether the probability p and the value at a point have the root above it
  pub above : Float → Float → Bool
  -- the bracket above a point with which the doubling starts
  pub from : Float → Bracket
  -- by p, and the value at the upper bound
  pub widened : Float → Bracket → Float → Next Bracket (Option Bracket)
  -- what is found where no doubling is left
  pub widest : Bracket → Option Bracket
  -- by p, and the value at the lower bound
  pub lowered : Float → Bracket → Float → Next Bracket Bracket
  -- the point of the first iteration in a bracket
  pub begin : Bracket → Float → Float
  -- by the density, p, and the value at the point
  pub iteration : Float → Float → Bracket × Float → Float → Next (Bracket × Float) Float

-- ---- the loops

abbrev pub upward_loop : Rules → Float → Float → Loop Bracket (Option Bracket)
upward_loop r mu p = record {
  ask = λ x. r.curve x mu;
  point = λ b. b.upper;
  advance = r.widened p;
  out = r.widest;
}

unfoldable pub upward : Rules → Float → Float → Float → Counted (Option Bracket)
upward r x mu p = iterate (upward_loop r mu p) doublings (go (r.from x))

abbrev pub downward_loop : Rules → Float → Float → Loop Bracket Bracket
downward_loop r mu p = record {
  ask = λ x. r.curve x mu;
  point = λ b. b.lower;
  advance = r.lowered p;
  out = λ b. b;
}

unfoldable pub downward : Rules → Float → Float → Float → Counted Bracket
downward r x mu p = iterate (downward_loop r mu p) halvings (halved x x)

abbrev pub narrowing_loop : Rules → Float → Float → Loop (Bracket × Float) Float
narrowing_loop r mu p = record {
  ask = λ x. r.curve x mu;
  point = λ t. t.1;
  advance = λ t v. r.iteration (inverse_gaussian_pdf t.1 mu) p t v;
  out = λ t. bracket_midpoint t.0;
}

unfoldable pub narrowing : Rules → Float → Float → Bracket → Float → Counted Float
narrowing r mu p b x = iterate (narrowing_loop r mu p) 64 (go (b, x))

-- from a binary64 value that is finite and above 0 both searches for a bracket end within their iterations
abbrev pub UpwardEnds : Rules → Type 0
UpwardEnds r = (mu p x : Float) → finite_positive x ≡ true → fits binary64 x ≡ true → Ends (upward_loop r mu p) doublings (go (r.from x))

abbrev pub DownwardEnds : Rules → Type 0
DownwardEnds r = (mu p x : Float) → finite_positive x ≡ true → fits binary64 x ≡ true → Ends (downward_loop r mu p) halvings (halved x x)

-- ---- the whole search

-- a bracket on the side of x to which the value v there points
unfoldable pub bracket_beside : Rules → Float → Float → Float → Float → Counted (Option Bracket)
bracket_beside r x v mu p = cond (r.above p v) (upward r x mu p) (some_of (downward r x mu p))

-- the search f in a bracket, and none where there is no bracket
abbrev pub root_in : (Bracket → Counted Float) → Option Bracket → Counted (Option Float)
root_in f (some b) = some_of (f b)
root_in f none = at_once none

-- one evaluation at x, a bracket, and the iterations in it
unfoldable pub root_from : Rules → Float → Float → Float → Counted (Option Float)
root_from r x mu p = tick (then (bracket_beside r x (r.curve x mu) mu p) (root_in (λ b. narrowing r mu p b (r.begin b x))))

-- ---- the two curves

-- the same, with a bracket that is found as one that might not be
abbrev pub stop_some : Next Bracket Bracket → Next Bracket (Option Bracket)
stop_some (stop b) = stop (some b)
stop_some (go b) = go b

abbrev pub distribution : Rules
distribution = record {
  curve = inverse_gaussian_cdf;
  above = λ p v. lt v p;
  from = doubled_from;
  widened = λ p b v. stop_some (widened p b v);
  widest = λ b. some b;
  lowered = lowered;
  begin = clamped;
  iteration = iteration;
}

abbrev pub survival : Rules
survival = record {
  curve = inverse_gaussian_survival;
  above = λ p v. lt p v;
  from = capped_from;
  widened = survival_widened;
  widest = λ b. none;
  lowered = survival_lowered;
  begin = λ b x. x;
  iteration = survival_iteration;
}
