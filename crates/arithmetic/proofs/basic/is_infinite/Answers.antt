-- `basic::is_infinite` meets its contract: std's test is the definition's. Assumes nothing.
use Rattle.std.proofs.Common.{◌∙◌}
use Rattle.arithmetic.proofs.Methods.{infinite_is}
use Rattle.arithmetic.proofs.basic.is_infinite.Goals as goal

pub returns : goal.returns
returns c = c.is_infinite.ensures.value ∙ infinite_is c.args.x
