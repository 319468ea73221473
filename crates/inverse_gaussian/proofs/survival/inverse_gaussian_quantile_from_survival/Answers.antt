-- `survival::inverse_gaussian_quantile_from_survival` meets its contract. Assumes nothing.
use mathlib.Core.Path.{sym, ◌∙◌}
use Rattle.inverse_gaussian.specs.Survival.{inverse_gaussian_quantile_from_survival, survival_search}
use Rattle.inverse_gaussian.specs.Laws.Counted.{limited_now}
use Rattle.inverse_gaussian.specs.Counted.{none}
use Rattle.inverse_gaussian.proofs.Searches.{solvable_finite_positive, start_finite_positive}
use Rattle.inverse_gaussian.proofs.Agree.{survival_root_from}
use Rattle.inverse_gaussian.proofs.survival.inverse_gaussian_quantile_from_survival.Goals as goal

pub returns-then-not-is_solvable-clause-metered : goal.returns-then-not-is_solvable-clause-metered
unfolding inverse_gaussian_quantile_from_survival
returns-then-not-is_solvable-clause-metered c = rw (sym c.is_solvable.ensures ∙ c.if-not-is_solvable.true) (sym (limited_now _ none))

pub invariant_of-search : goal.invariant_of-search
invariant_of-search c = record {
  start_is_positive = start_finite_positive _ _ _
      (solvable_finite_positive c.args.probability c.args.mu (sym c.is_solvable.ensures ∙ c.if-not-is_solvable.false))
      c.starting_point-start.ensures;
}

pub returns-clause-metered : goal.returns-clause-metered
unfolding inverse_gaussian_quantile_from_survival survival_search
returns-clause-metered c = rw (
  sym c.is_solvable.ensures ∙ c.if-not-is_solvable.false,
  c.root.ensures.metered,
  survival_root_from c.args.mu c.args.probability c.starting_point-start.result,
  c.starting_point-start.ensures,
  c.inverse_gaussian_quantile_initial_guess_from_z.ensures,
  c.inverse_norm_cdf-z.ensures,
)
