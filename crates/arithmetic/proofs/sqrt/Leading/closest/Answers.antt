-- `Leading::closest` meets its contract: what passes the test is nearest. Assumes nothing.
use denote.Floats.{passes}
use Rattle.arithmetic.proofs.sqrt.Leading.closest.Goals as goal

pub returns-then-is_closest : goal.returns-then-is_closest
returns-then-is_closest c = c.is_closest.ensures (passes _ c.if-is_closest.true)

pub returns-then-is_closest-2 : goal.returns-then-is_closest-2
returns-then-is_closest-2 c = c.is_closest-2.ensures (passes _ c.if-is_closest-2.true)
