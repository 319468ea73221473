-- `newton::Steps::step_at` meets its contract. Assumes nothing.
use Rattle.inverse_gaussian.specs.Laws.Counted.{taken, not_taken}
use Rattle.inverse_gaussian.specs.Laws.Metered.{passed_on}
use Rattle.inverse_gaussian.proofs.Turns.{told}
use Rattle.inverse_gaussian.proofs.newton.Steps.step_at.Goals as goal

pub returns-in_err-evaluation-clause-metered : goal.returns-in_err-evaluation-clause-metered
returns-in_err-evaluation-clause-metered c =
    passed_on _ _ _ c.from_residual.ensures.0 (not_taken _ _ _ c.in_err-evaluation.ensures.metered)

pub returns-clause-metered : goal.returns-clause-metered
returns-clause-metered c =
    let o = told c.in_ok-evaluation.ensures.metered in
    taken _ _ c.in_ok-evaluation.ensures.metered
    (rw (c.nrstep.ensures, c.numerator-error.ensures, c.density.ensures, o.value, o.density))
