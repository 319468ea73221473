-- `quantile::inverse_gaussian_quantile` meets its contract. Assumes nothing.
use mathlib.Core.Path.{sym, ◌∙◌}
use Rattle.inverse_gaussian.specs.Laws.Metered.{passed_on}
use Rattle.inverse_gaussian.proofs.Searches.{unsolvable, newton_root, newton_none, newton_spent}
use Rattle.inverse_gaussian.proofs.quantile.inverse_gaussian_quantile.Goals as goal

pub returns-then-not-is_solvable-clause-metered : goal.returns-then-not-is_solvable-clause-metered
returns-then-not-is_solvable-clause-metered c = unsolvable _ _ _ (sym c.is_solvable.ensures ∙ c.if-not-is_solvable.true)

pub returns-in_err-inverse_gaussian_quantile_actuar-clause-metered : goal.returns-in_err-inverse_gaussian_quantile_actuar-clause-metered
returns-in_err-inverse_gaussian_quantile_actuar-clause-metered c = passed_on _ _ _ c.from_residual.ensures.0
    (newton_spent _ _ _ (sym c.is_solvable.ensures ∙ c.if-not-is_solvable.false) c.in_err-inverse_gaussian_quantile_actuar.ensures.metered)

pub returns-in-Some-clause-metered : goal.returns-in-Some-clause-metered
returns-in-Some-clause-metered c =
    newton_root _ _ _ (sym c.is_solvable.ensures ∙ c.if-not-is_solvable.false) c.in_ok-inverse_gaussian_quantile_actuar.ensures.metered
    (rw c.in-Some.is at c.filtered.ensures)

pub returns-in-None-clause-metered : goal.returns-in-None-clause-metered
returns-in-None-clause-metered c =
    newton_none _ _ _ (sym c.is_solvable.ensures ∙ c.if-not-is_solvable.false) c.in_ok-inverse_gaussian_quantile_actuar.ensures.metered
    (rw c.in-None.is at c.filtered.ensures) c.inverse_gaussian_quantile_bracketed.ensures.metered
