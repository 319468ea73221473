-- `search::Search::bracket_quantile_from_above` meets its contract. The invariant: what the definition gives for what was allowed is what it
-- gives from here for what is left; and from here it ends within its turns. The measure is what is left. Assumes nothing.
use mathlib.Core.Path.{ap}
use Rattle.inverse_gaussian.specs.Internal.Bracketed.{downward}
use Rattle.inverse_gaussian.specs.Internal.Searches.{view_flow}
use Rattle.inverse_gaussian.specs.Laws.Counted.{carried, carried_at, carried_spent, fewer}
use Rattle.inverse_gaussian.specs.Laws.Metered.{passed_on}
use Rattle.inverse_gaussian.proofs.Turns.{told, turned, found}
use Rattle.inverse_gaussian.proofs.search.Search.bracket_quantile_from_above.Goals as goal

pub loop-next-init : goal.loop-next-init
unfolding downward
loop-next-init g c = rw c.halved-next.ensures
    (carried (g.met.C.Curve.downward_ends c.args.self.mu c.args.self.probability c.args.self.start c.args.self.start_is_positive c.well_formed.0.1.1.0.1))

pub returns-in-Break-clause-metered : goal.returns-in-Break-clause-metered
returns-in-Break-clause-metered g c = found (carried_at c.loop-next.invariant (ap (view_flow (λ b. b)) c.in-Break.is))

pub returns-in_err-evaluate-in-Continue-clause-metered : goal.returns-in_err-evaluate-in-Continue-clause-metered
returns-in_err-evaluate-in-Continue-clause-metered g c = passed_on _ _ _ c.from_residual.ensures.0
    (carried_spent _ (carried_at c.loop-next.invariant (ap (view_flow (λ b. b)) c.in-Continue.is)) c.in_err-evaluate-in-Continue.ensures.metered)

pub loop-next-smaller : goal.loop-next-smaller
loop-next-smaller g c = fewer _ c.in_ok-evaluate-in-Continue.ensures.metered

pub loop-next-preserved : goal.loop-next-preserved
loop-next-preserved g c = turned (carried_at c.loop-next.invariant (ap (view_flow (λ b. b)) c.in-Continue.is))
    (told c.in_ok-evaluate-in-Continue.ensures.metered) (rw c.value-value.ensures at c.lowered-next.ensures)
