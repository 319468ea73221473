-- `basic::signum` meets its contract, by the sign. Assumes nothing.
use Rattle.std.proofs.Common.{sym}
use Rattle.arithmetic.specs.Basic.{signum}
use Rattle.arithmetic.specs.Laws.Signs.{signum_is}
use Rattle.arithmetic.proofs.Methods.{nan_of, sign_is}
use Rattle.arithmetic.proofs.basic.signum.Goals as goal

pub returns-then-is_nan : goal.returns-then-is_nan
unfolding signum
returns-then-is_nan c = rw (nan_of c.args.x c.if-is_nan.ensures.value)

pub returns-then-is_sign_negative : goal.returns-then-is_sign_negative
returns-then-is_sign_negative c =
    let x = c.args.x in
    rw (signum_is x (sym c.if-is_nan.ensures.value), ← sign_is x, ← c.if-is_sign_negative.ensures)

pub returns-else-is_sign_negative : goal.returns-else-is_sign_negative
returns-else-is_sign_negative c =
    let x = c.args.x in
    rw (signum_is x (sym c.if-is_nan.ensures.value), ← sign_is x, ← c.if-is_sign_negative.ensures)
