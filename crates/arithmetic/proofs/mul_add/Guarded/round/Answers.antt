-- `Guarded::round` meets its contract: a law of `MulAddPack` below a tie, at it and above it. Assumes nothing.
use Rattle.arithmetic.proofs.MulAddPack.{round_guarded_under, round_guarded_tie, round_guarded_over}
use Rattle.arithmetic.proofs.mul_add.Guarded.round.Goals as goal

pub returns-then-r-lt-TIE : goal.returns-then-r-lt-TIE
returns-then-r-lt-TIE c = round_guarded_under c.args.self.m c.if-r-lt-TIE.true

pub returns-then-r-eq-TIE : goal.returns-then-r-eq-TIE
returns-then-r-eq-TIE c = round_guarded_tie c.args.self.m c.if-r-eq-TIE.true

pub returns-else-r-eq-TIE : goal.returns-else-r-eq-TIE
returns-else-r-eq-TIE c = round_guarded_over c.args.self.m c.if-r-eq-TIE.false c.if-r-lt-TIE.false
