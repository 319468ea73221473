-- Measure: the lines still to come.
use Rattle.xdr_sheet.specs.Printing.{left}
use Rattle.sheet.proofs.print.Given as goal

abbrev pub decreases-loop-progress : goal.decreases-loop-progress
decreases-loop-progress g l = left l.sheet l.progress
