use Prim.Native.Nat.{◌-◌, ◌≤◌}
use Rattle.inverse_gaussian.specs.Counted.{limited}
use Rattle.inverse_gaussian.specs.Loops.{go}
use Rattle.inverse_gaussian.specs.Newton.{newton_loop, steps}
use Rattle.inverse_gaussian.specs.Laws.Counted.{Left}
use Rattle.inverse_gaussian.proofs.newton.Steps.after_first.Given as goal

abbrev pub invariant-loop : goal.invariant-loop
invariant-loop l =
    let s = l.self in
    Left (newton_loop s.probability s.log_probability s.mu) (100 - l.counter)
    (limited l.initial.allowed.left (steps s.probability s.log_probability s.mu (go l.fn.begin))) l.allowed.left (go (l.x, l.direction))
    × (l.counter ≤ 100)

abbrev pub decreases-loop : goal.decreases-loop
decreases-loop l = 100 - l.counter
