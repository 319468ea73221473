use Rattle.ladder.proofs.Places.{Sofar}
use Rattle.ladder.proofs.ladder.solve_places.Given as goal

abbrev pub invariant-loop-i : goal.invariant-loop-i
invariant-loop-i l = Sofar l.shared.side l.shared.forward l.shared.time l.strikes l.prices l.initial.totals l.initial.volatilities l.initial.counts l.initial.refusals l.i l.roots.taken l.totals l.volatilities l.counts l.refusals
