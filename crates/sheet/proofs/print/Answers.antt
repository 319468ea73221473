-- The buffer holds any line, so that each part leaves fewer to come.
use native.Mathlib.Omega.{arith}
use Rattle.xdr_sheet.specs.Laws.Printing.{fill_falls}
use Rattle.sheet.proofs.print.Goals as goal

pub loop-progress-smaller : goal.loop-progress-smaller
loop-progress-smaller g c = fill_falls _ _ _ _ _ c.fill-filled.ensures c.in-Some.is (omega arith)
