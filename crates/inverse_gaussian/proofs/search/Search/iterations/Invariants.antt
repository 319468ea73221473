use Prim.Native.Nat.{◌-◌, ◌≤◌}
use Rattle.inverse_gaussian.specs.Counted.{limited}
use Rattle.inverse_gaussian.specs.Loops.{go}
use Rattle.inverse_gaussian.specs.Internal.Bracketed.{narrowing_loop, narrowing}
use Rattle.inverse_gaussian.specs.Laws.Counted.{Left}
use Rattle.inverse_gaussian.proofs.search.Search.iterations.Given as goal

abbrev pub invariant-loop : goal.invariant-loop
invariant-loop g l =
    let whole = narrowing g.C.Curve.rules l.self.mu l.self.probability l.fn.begin.0 l.fn.begin.1 in
    Left (narrowing_loop g.C.Curve.rules l.self.mu l.self.probability) (64 - l.counter) (limited l.initial.allowed.left whole) l.allowed.left
    (go (l.bracket, l.x))
    × (l.counter ≤ 64)

abbrev pub decreases-loop : goal.decreases-loop
decreases-loop g l = 64 - l.counter
