-- `basic::min` meets its contract: it is its definition. Assumes nothing.
use Rattle.arithmetic.specs.Basic.{min}
use Rattle.arithmetic.proofs.basic.min.Goals as goal

pub returns : goal.returns
unfolding min
returns c = c.chosen.ensures
