-- `basic::max` meets its contract: it is its definition. Assumes nothing.
use Rattle.arithmetic.specs.Basic.{max}
use Rattle.arithmetic.proofs.basic.max.Goals as goal

pub returns : goal.returns
unfolding max
returns c = c.chosen.ensures
