-- `Leading::by_digits` meets its contract, by the laws of `SqrtDigits`. The invariant: r is the whole root of the upper digits. The measure is the
-- iterations that are left. Assumes nothing.
use Rattle.std.proofs.Common.{arith}
use Rattle.arithmetic.proofs.SqrtDigits.{small, upper_none, next_0, next_1, nearest_above, nearest_itself, closest_of}
use Rattle.arithmetic.proofs.sqrt.Leading.by_digits.Goals as goal
use Rattle.arithmetic.proofs.sqrt.Leading.by_digits.Goals.{then-r-e, else-r-e}

pub loop-init : goal.loop-init
loop-init c = (upper_none _ (omega arith), omega arith)

pub overflow_mul-e : goal.overflow_mul-e
overflow_mul-e c = let bound = small c.loop.invariant in omega (arith, bound)

pub overflow_add-e : goal.overflow_add-e
overflow_add-e c = let bound = small c.loop.invariant in omega (arith, bound)

pub overflow_mul-r-in-loop : goal.overflow_mul-r-in-loop
overflow_mul-r-in-loop c = let bound = small c.loop.invariant in omega (arith, bound)

pub overflow_mul-e-then-r-e : goal.overflow_mul-e-then-r-e
overflow_mul-e-then-r-e c = let bound = small c.loop.invariant in omega (arith, bound)

pub loop-preserved : goal.loop-preserved
loop-preserved c = let upper = c.loop.invariant.0 in (
  elim c.if-r-e.branch [ then-r-e w ↦ rw (w.r-is, w.e-is) (next_1 _ _ _ _ _ upper w.if-r-e.true) | else-r-e w ↦ rw (w.r-is, w.e-is) (next_0 _ _ _ _ _ upper w.if-r-e.false) ],
  omega arith,
)

pub returns-then-r-e-2 : goal.returns-then-r-e-2
returns-then-r-e-2 c = closest_of c.args.self.w _ c.args.self.in_range (nearest_above _ _ _ _ _ c.loop.invariant.0 (omega arith) c.if-r-e-2.true)

pub returns-else-r-e-2 : goal.returns-else-r-e-2
returns-else-r-e-2 c = closest_of c.args.self.w _ c.args.self.in_range (nearest_itself _ _ _ _ _ (omega arith) c.loop.invariant.0 (omega arith) c.if-r-e-2.false)
