-- `search::Search::bracket_quantile_from_below` meets its contract. The invariant: what the definition gives for what was allowed is what it
-- gives from here for what is left; and from here it ends within its turns. The measure is what is left. Assumes nothing.
use Rattle.inverse_gaussian.specs.Internal.Bracketed.{upward}
use Rattle.inverse_gaussian.specs.Laws.Counted.{carried, carried_spent, fewer}
use Rattle.inverse_gaussian.specs.Laws.Metered.{passed_on}
use Rattle.inverse_gaussian.proofs.Turns.{told, turned, found}
use Rattle.inverse_gaussian.proofs.search.Search.bracket_quantile_from_below.Goals as goal

pub loop-value-init : goal.loop-value-init
unfolding upward
loop-value-init g c = rw c.bracket_from-bracket.ensures
    (carried (g.met.C.Curve.upward_ends c.args.self.mu c.args.self.probability c.args.self.start c.args.self.start_is_positive c.well_formed.0.1.1.0.1))

pub returns-in_err-evaluate-clause-metered : goal.returns-in_err-evaluate-clause-metered
returns-in_err-evaluate-clause-metered g c =
    passed_on _ _ _ c.from_residual.ensures.0 (carried_spent _ c.loop-value.invariant c.in_err-evaluate.ensures.metered)

pub returns-in-Break-clause-metered : goal.returns-in-Break-clause-metered
returns-in-Break-clause-metered g c =
    found (turned c.loop-value.invariant (told c.in_ok-evaluate.ensures.metered) (rw c.value-value.ensures at c.in-Break.ensures))

pub loop-value-smaller : goal.loop-value-smaller
loop-value-smaller g c = fewer _ c.in_ok-evaluate.ensures.metered

pub loop-value-preserved : goal.loop-value-preserved
loop-value-preserved g c =
    turned c.loop-value.invariant (told c.in_ok-evaluate.ensures.metered) (rw c.value-value.ensures at c.in-Continue.ensures)
