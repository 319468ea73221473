-- `Term::round` meets its contract, by `guarded_round`. Assumes nothing.
use Rattle.std.proofs.Common.{◌∙◌}
use Rattle.arithmetic.proofs.MulAddGuarded.{guarded_round}
use Rattle.arithmetic.proofs.mul_add.Term.round.Goals as goal

pub returns : goal.returns
returns c = c.pack.ensures ∙ guarded_round c.args.negative _ c.to_guarded.result c.to_guarded.ensures
