-- `search::Search::bracket_beside` meets its contract. Assumes nothing.
use mathlib.Core.Path.{sym, ◌∙◌}
use Rattle.inverse_gaussian.specs.Internal.Bracketed.{bracket_beside}
use Rattle.inverse_gaussian.specs.Laws.Counted.{some_spent, some_have}
use Rattle.inverse_gaussian.specs.Laws.Metered.{passed_on}
use Rattle.inverse_gaussian.proofs.search.Search.bracket_beside.Goals as goal

pub returns-then-root_is_above-clause-metered : goal.returns-then-root_is_above-clause-metered
unfolding bracket_beside
returns-then-root_is_above-clause-metered g c = rw (c.bracket_quantile_from_below.ensures.metered, sym c.root_is_above.ensures ∙ c.if-root_is_above.true)

pub returns-in_err-bracket_quantile_from_above-clause-metered : goal.returns-in_err-bracket_quantile_from_above-clause-metered
unfolding bracket_beside
returns-in_err-bracket_quantile_from_above-clause-metered g c =
    rw (sym c.root_is_above.ensures ∙ c.if-root_is_above.false)
    (passed_on _ _ _ c.from_residual.ensures.0 (some_spent _ _ c.in_err-bracket_quantile_from_above.ensures.metered))

pub returns-clause-metered : goal.returns-clause-metered
unfolding bracket_beside
returns-clause-metered g c = rw (sym c.root_is_above.ensures ∙ c.if-root_is_above.false) (some_have _ _ _ _ c.in_ok-bracket_quantile_from_above.ensures.metered)
