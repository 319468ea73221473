-- `initial_guess::is_finite_positive` meets its contract. Assumes nothing.
use mathlib.Core.Path.{◌≡◌, refl}
use mathlib.Core.Bool.{true, false, false≢true}
use lib.Dec.{T}
use denote.Floats.{passes}
use lib.Ieee.{Float, nan, inf, fin, binary64, lt, le, fits, of_bits}
use lib.Ieee.Bits.{is_true}
use Rattle.arithmetic.specs.Operations.{plus_zero, max_finite}
use Rattle.arithmetic.specs.Laws.Bounds.{at_most_max}
use Rattle.inverse_gaussian.specs.Curves.{finite_positive}
use Rattle.inverse_gaussian.proofs.initial_guess.is_finite_positive.Goals as goal

-- of what is above 0 the infinity alone is above the largest finite value
above_zero : (x : Float) → T (fits binary64 x) → lt plus_zero x ≡ true → le x max_finite ≡ finite_positive x
unfolding lt le of_bits
above_zero nan F h = absurd (false≢true h)
above_zero (inf true) F h = absurd (false≢true h)
above_zero (inf false) F h = refl
above_zero (fin true m e) F h = absurd (false≢true h)
above_zero (fin false m e) F h = rw (is_true (le (fin false m e) max_finite) (at_most_max (fin false m e) F tt refl), h) refl

pub returns-then-x : goal.returns-then-x
returns-then-x c = above_zero _ (passes _ c.well_formed.0.1) c.if-x.true
