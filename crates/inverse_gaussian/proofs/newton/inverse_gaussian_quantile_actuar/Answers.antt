-- `newton::inverse_gaussian_quantile_actuar` meets its contract. Assumes nothing.
use Rattle.inverse_gaussian.specs.Laws.Metered.{passed_on}
use Rattle.inverse_gaussian.proofs.Searches.{no_step, from_step, no_more_steps}
use Rattle.inverse_gaussian.proofs.newton.inverse_gaussian_quantile_actuar.Goals as goal

pub returns-in_err-step_at-clause-metered : goal.returns-in_err-step_at-clause-metered
returns-in_err-step_at-clause-metered c = passed_on _ _ _ c.from_residual.ensures.0 (no_step _ _ _ _ c.in_err-step_at.ensures.metered)

pub returns-in-Break-clause-metered : goal.returns-in-Break-clause-metered
returns-in-Break-clause-metered c =
    from_step _ _ _ c.ln.ensures c.initial_x-x.ensures c.in_ok-step_at.ensures.metered c.in-Break.ensures (no_more_steps _ _ _ _ _)

pub returns-in-Continue-clause-metered : goal.returns-in-Continue-clause-metered
returns-in-Continue-clause-metered c =
    from_step _ _ _ c.ln.ensures c.initial_x-x.ensures c.in_ok-step_at.ensures.metered c.in-Continue.ensures c.after_first.ensures.metered
