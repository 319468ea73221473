-- `exp::reduced` meets its contract: it is the definition, operation by operation. Assumes nothing.
use Rattle.std.proofs.Common.{refl}
use lib.Ieee.{neg, of_bits}
use Rattle.arithmetic.specs.Exp.{reduced}
use Rattle.arithmetic.proofs.exp.reduced.Goals as goal

pub returns : goal.returns
unfolding reduced neg of_bits
returns c = refl
