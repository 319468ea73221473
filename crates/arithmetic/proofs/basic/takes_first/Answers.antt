-- `basic::takes_first` meets its contract: the two comparisons, and the sign for equal operands. Assumes nothing.
use Rattle.std.proofs.Common.{not, ap, ◌∙◌}
use Rattle.arithmetic.proofs.Methods.{sign_is}
use Rattle.arithmetic.proofs.basic.takes_first.Goals as goal

pub returns : goal.returns
returns c = c.is_sign_positive.ensures ∙ ap not (sign_is c.args.x) ∙ rw (c.if-x-y.false, c.if-y-x.false)
