-- `quantile::inverse_gaussian_quantile_bracketed` meets its contract. Assumes nothing.
use Rattle.inverse_gaussian.specs.Quantile.{inverse_gaussian_quantile_bracketed}
use Rattle.inverse_gaussian.proofs.Searches.{start_finite_positive}
use Rattle.inverse_gaussian.proofs.Agree.{distribution_root_from}
use Rattle.inverse_gaussian.proofs.quantile.inverse_gaussian_quantile_bracketed.Goals as goal

pub invariant_of-search : goal.invariant_of-search
invariant_of-search c = record { start_is_positive = start_finite_positive _ _ _ c.requires c.starting_point-start.ensures }

pub returns-clause-metered : goal.returns-clause-metered
unfolding inverse_gaussian_quantile_bracketed
returns-clause-metered c = rw (
  c.root.ensures.metered,
  distribution_root_from c.args.mu c.args.probability c.starting_point-start.result,
  c.starting_point-start.ensures,
  c.inverse_gaussian_quantile_initial_guess.ensures,
)
