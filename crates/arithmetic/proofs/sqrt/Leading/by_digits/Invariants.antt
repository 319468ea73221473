use Rattle.std.proofs.Common.{◌-◌, ◌≤◌}
use Rattle.arithmetic.proofs.SqrtDigits.{Upper}
use Rattle.arithmetic.proofs.sqrt.Leading.by_digits.Given as goal

abbrev pub invariant-loop : goal.invariant-loop
invariant-loop l = Upper l.initial.rest l.counter l.r l.e l.rest × (l.counter ≤ 53)

abbrev pub decreases-loop : goal.decreases-loop
decreases-loop l = 53 - l.counter
