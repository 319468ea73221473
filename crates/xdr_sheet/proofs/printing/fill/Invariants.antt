use Rattle.xdr_sheet.specs.Printing.{left}
use Rattle.xdr_sheet.proofs.Fill.{Sofar}
use Rattle.xdr_sheet.proofs.printing.fill.Given as goal

abbrev pub invariant-loop-next : goal.invariant-loop-next
invariant-loop-next l = Sofar l.sheet l.initial.next l.initial.out l.count l.next l.out

abbrev pub decreases-loop-next : goal.decreases-loop-next
decreases-loop-next l = left l.sheet l.next
