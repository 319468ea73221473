use Rattle.inverse_gaussian.specs.Counted.{limited}
use Rattle.inverse_gaussian.specs.Loops.{go}
use Rattle.inverse_gaussian.specs.Bracket.{doublings}
use Rattle.inverse_gaussian.specs.Internal.Bracketed.{upward_loop, upward}
use Rattle.inverse_gaussian.specs.Laws.Counted.{Carried}
use Rattle.inverse_gaussian.proofs.search.Search.bracket_quantile_from_below.Given as goal

abbrev pub invariant-loop-value : goal.invariant-loop-value
invariant-loop-value g l =
    let whole = upward g.C.Curve.rules l.self.start l.self.mu l.self.probability in
    Carried (upward_loop g.C.Curve.rules l.self.mu l.self.probability) doublings (limited l.initial.allowed.left whole) l.allowed.left (go l.bracket)

abbrev pub decreases-loop-value : goal.decreases-loop-value
decreases-loop-value g l = l.allowed.left
