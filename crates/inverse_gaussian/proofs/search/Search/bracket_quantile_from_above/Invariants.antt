use Rattle.inverse_gaussian.specs.Counted.{limited}
use Rattle.inverse_gaussian.specs.Bracket.{halvings}
use Rattle.inverse_gaussian.specs.Internal.Bracketed.{downward_loop, downward}
use Rattle.inverse_gaussian.specs.Internal.Searches.{view_flow}
use Rattle.inverse_gaussian.specs.Laws.Counted.{Carried}
use Rattle.inverse_gaussian.proofs.search.Search.bracket_quantile_from_above.Given as goal

abbrev pub invariant-loop-next : goal.invariant-loop-next
invariant-loop-next g l =
    let whole = downward g.C.Curve.rules l.self.start l.self.mu l.self.probability in
    Carried (downward_loop g.C.Curve.rules l.self.mu l.self.probability) halvings (limited l.initial.allowed.left whole) l.allowed.left
    (view_flow (λ b. b) l.next)

abbrev pub decreases-loop-next : goal.decreases-loop-next
decreases-loop-next g l = l.allowed.left
