use Rattle.std.specs.Prelude.{◌≡◌}
use Rattle.cable_window.specs.Window.{zeros, after_writes, writes}
use Rattle.cable_window.proofs.window.after_writes.Given as goal

abbrev pub invariant-loop-offset : goal.invariant-loop-offset
invariant-loop-offset l =
    after_writes l.window.bytes (writes l.offset-iterator.a.rest.now l.offset-iterator.b.rest.now) ≡ after_writes zeros (writes l.offsets l.words)
