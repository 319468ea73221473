-- `normal_distribution::asymptotic_sum` meets its contract. Invariant: the sum at which the definition stops from here is the definition's. Measure: the
-- last term's magnitude, in units of 2 ^ -1074. Assumes nothing.
use Rattle.special_function.proofs.AsymptoticSum.{invariant_start, invariant_next}
use Rattle.special_function.proofs.normal_distribution.asymptotic_sum.Goals as goal

pub loop-s-init : goal.loop-s-init
loop-s-init c = invariant_start _

pub loop-s-preserved : goal.loop-s-preserved
loop-s-preserved c = invariant_next _ _ _ c.loop-s.invariant c.next-s.ensures (cc)
