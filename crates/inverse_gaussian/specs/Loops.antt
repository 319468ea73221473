-- A search as a loop: in each iteration a curve is evaluated at the point of a state, and its value decides the next state or the result. Definitions only.
use Rattle.std.specs.Prelude.{ℕ, zero, suc, Float}
use Rattle.inverse_gaussian.specs.Counted.{Counted, at_once, tick}

-- what an iteration ends with: the next state, or the search's result
pub data Next (S R : Type 0) : Type 0 where
  go : S → Next S R
  stop : R → Next S R

-- a loop over states S with a result in R
pub record Loop (S R : Type 0) : Type 0 where
  -- the curve that is evaluated
  pub ask : Float → Float
  -- where a state has it evaluated
  pub point : S → Float
  -- what follows from a state and the curve's value at its point
  pub advance : S → Float → Next S R
  -- the result where the number of iterations is used up
  pub out : S → R

-- one iteration
abbrev pub step : {S R : Type 0} → Loop S R → S → Next S R
step l s = l.advance s (l.ask (l.point s))

-- at most k iterations, each with one evaluation
unfoldable pub iterate : {S R : Type 0} → Loop S R → ℕ → Next S R → Counted R
iterate l zero (go s) = at_once (l.out s)
iterate l zero (stop r) = at_once r
iterate l (suc k) (go s) = tick (iterate l k (step l s))
iterate l (suc k) (stop r) = at_once r

-- the loop has its result within k iterations, before they are used up
unfoldable pub Ends : {S R : Type 0} → Loop S R → ℕ → Next S R → Type 0
Ends l zero (go s) = ⊥
Ends l zero (stop r) = Unit
Ends l (suc k) (go s) = Ends l k (step l s)
Ends l (suc k) (stop r) = Unit
