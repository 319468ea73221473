-- `exp::general` meets its contract: a law of `ExpGeneral` for each path, and of `ExpExponent` between the thresholds. Assumes nothing.
use Rattle.std.proofs.Common.{sym}
use Rattle.arithmetic.proofs.ExpGeneral.{exp_of_nan, exp_over, exp_under}
use Rattle.arithmetic.proofs.ExpExponent.{code_exponent, exp_computed}
use Rattle.arithmetic.proofs.exp.general.Goals as goal

pub returns-then-is_nan : goal.returns-then-is_nan
returns-then-is_nan c = exp_of_nan c.args.x c.if-is_nan.ensures.value

pub returns-then-x : goal.returns-then-x
returns-then-x c = exp_over c.args.x (sym c.if-is_nan.ensures.value) c.if-x.true

pub returns-then-x-2 : goal.returns-then-x-2
returns-then-x-2 c = exp_under c.args.x (sym c.if-is_nan.ensures.value) c.if-x.false c.if-x-2.true

pub float_to_int-k : goal.float_to_int-k
float_to_int-k c =
    let k = code_exponent c.args.x c.if-is_nan.ensures.value c.if-x.false c.if-x-2.false _ _ c.half_away.ensures c.trunc-k.ensures in k.is_whole

pub scale_b-requires : goal.scale_b-requires
scale_b-requires c =
    let k = code_exponent c.args.x c.if-is_nan.ensures.value c.if-x.false c.if-x-2.false _ _ c.half_away.ensures c.trunc-k.ensures in k.few

pub returns : goal.returns
returns c =
    exp_computed c.args.x c.if-is_nan.ensures.value c.if-x.false c.if-x-2.false _ _ c.half_away.ensures c.trunc-k.ensures
    c.reduced.result c.scale_b.result c.reduced.ensures c.scale_b.ensures
