use Rattle.special_function.proofs.AsymptoticSum.{magnitude_in_units, LoopInvariant}
use Rattle.special_function.proofs.normal_distribution.asymptotic_sum.Given as goal

abbrev pub invariant-loop-s : goal.invariant-loop-s
invariant-loop-s l = LoopInvariant l.zsqr l.s

abbrev pub decreases-loop-s : goal.decreases-loop-s
decreases-loop-s l = magnitude_in_units l.s.a
