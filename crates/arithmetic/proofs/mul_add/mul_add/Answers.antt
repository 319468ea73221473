-- `mul_add::mul_add` meets its contract: a law of `MulAddOperands` where an operand is a NaN or an infinity, and where all are finite what the
-- steps ensure. Assumes nothing.
use Rattle.std.proofs.Common.{◌≡◌, false, ◌&&◌, sym, ◌∙◌, rules}
use lib.Ieee.{unlike}
use lib.Ieee.Scale.{finite}
use Rattle.arithmetic.proofs.MulAddOperands.{product_special, third_special, mul_add_of_parts}
use Rattle.arithmetic.proofs.mul_add.mul_add.Goals as goal

pub returns-then-not-is_finite : goal.returns-then-not-is_finite
returns-then-not-is_finite c =
    let special : (finite c.args.x && finite c.args.a) ≡ false = search rules in
    product_special c.args.x c.args.a c.args.b special

pub returns-then-not-is_finite-3 : goal.returns-then-not-is_finite-3
returns-then-not-is_finite-3 c = third_special c.args.x c.args.a c.args.b (search rules) (search rules) (search rules)

pub returns : goal.returns
returns c =
    let x = c.decode-u.result in
    let a = c.decode-v.result in
    let b = c.decode-w.result in
    c.sum.ensures
    ∙ sym (c.align.ensures (unlike x.negative a.negative) b.negative)
    ∙ mul_add_of_parts c.args.x c.args.a c.args.b x a b c.product.result c.decode-u.ensures c.decode-v.ensures c.decode-w.ensures c.product.ensures
