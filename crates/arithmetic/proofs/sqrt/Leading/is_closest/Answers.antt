-- `Leading::is_closest` meets its contract: what passes its tests is the nearest root, by `tested`. Assumes nothing.
use Rattle.std.proofs.Common.{arith, leb→le}
use Rattle.arithmetic.proofs.SqrtDigits.{upper_square, cross_product, lower_square, tested, closest_of}
use Rattle.arithmetic.proofs.sqrt.Leading.is_closest.Goals as goal

pub overflow_mul-s : goal.overflow_mul-s
overflow_mul-s c = omega (arith, upper_square c.args.q c.if-q-ge-TWO_TO_53.false)

pub overflow_mul-t-2 : goal.overflow_mul-t-2
overflow_mul-t-2 c = omega (arith, cross_product c.args.q c.if-q-ge-TWO_TO_53.false)

pub overflow_mul-d : goal.overflow_mul-d
overflow_mul-d c = omega (arith, lower_square c.args.q c.if-q-ge-TWO_TO_53.false)

pub returns : goal.returns
returns c = λ t.
    let w = c.args.self.w in
    let q = c.args.q in
    closest_of w q c.args.self.in_range (tested w q c.if-self-s.false c.if-n-t.false c.if-a-d.false (leb→le _ _ t))
