-- `basic::is_finite` meets its contract: std's test is the definition's. Assumes nothing.
use Rattle.std.proofs.Common.{◌∙◌}
use Rattle.arithmetic.proofs.Methods.{finite_is}
use Rattle.arithmetic.proofs.basic.is_finite.Goals as goal

pub returns : goal.returns
returns c = c.is_finite.ensures.value ∙ finite_is c.args.x
