-- Invariant: what is left of the writes leads from this window to where all lead from zeros. Assumes nothing.
use Rattle.std.proofs.lemmas.Slice.Zip.{Zip-more, either_empty_from_Zip}
use Rattle.cable_window.proofs.Steps.{writes_turn, writes_end}
use Rattle.cable_window.proofs.window.after_writes.Goals as goal

pub loop-offset-preserved : goal.loop-offset-preserved
loop-offset-preserved c = let e = Zip-more c.loop-offset.offset-iterator c.next.new.self _ _ c.in-Some.is c.next.ensures.steps in
    writes_turn c.loop-offset.window.bytes _ _ e.0 e.1 c.write.ensures.window c.loop-offset.invariant

pub returns : goal.returns
returns c = writes_end _ (either_empty_from_Zip c.loop-offset.offset-iterator c.next.new.self _ c.in-None.is c.next.ensures.steps) c.loop-offset.invariant
