-- `exp::half_away` meets its contract: it is the definition, sign by sign. Assumes nothing.
use Rattle.std.proofs.Common.{refl}
use Rattle.arithmetic.specs.Exp.{half_away}
use Rattle.arithmetic.proofs.Methods.{sign_is}
use Rattle.arithmetic.proofs.exp.half_away.Goals as goal

pub returns-then-is_sign_negative : goal.returns-then-is_sign_negative
unfolding half_away
returns-then-is_sign_negative c = rw (← sign_is c.args.x, ← c.if-is_sign_negative.ensures) refl

pub returns-else-is_sign_negative : goal.returns-else-is_sign_negative
unfolding half_away
returns-else-is_sign_negative c = rw (← sign_is c.args.x, ← c.if-is_sign_negative.ensures) refl
