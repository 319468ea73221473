-- `Pair::digits` meets its contract, by the zeros that lead. Assumes nothing.
use Rattle.std.proofs.Common.{ap, ◌∙◌}
use lib.Ieee.{size}
use Rattle.arithmetic.proofs.Pairs.{digits_of}
use Rattle.arithmetic.proofs.pair.Pair.digits.Goals as goal

pub returns : goal.returns
returns c = digits_of c.from.result c.from.type_inv ∙ ap size c.from.ensures
