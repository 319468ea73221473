-- `basic::trunc` meets its contract: a law of `Trunc` for each path. Assumes nothing.
use Rattle.arithmetic.proofs.Trunc.{trunc_of_nan, trunc_zero, zero_no_nan, trunc_cleared, cleared_no_nan, trunc_whole}
use denote.Floats.{passes}
use lib.Ieee.{binary64, to_bits}
use Rattle.arithmetic.proofs.basic.trunc.Goals as goal

pub returns-then-is_nan : goal.returns-then-is_nan
returns-then-is_nan c = trunc_of_nan c.args.x c.if-is_nan.ensures.value

pub float_from_bits-result : goal.float_from_bits-result
float_from_bits-result c = zero_no_nan (to_bits binary64 c.args.x)

pub returns-then-field-lt-BIAS : goal.returns-then-field-lt-BIAS
returns-then-field-lt-BIAS c = trunc_zero c.args.x (passes _ c.well_formed.0.1) c.if-is_nan.ensures.not_nan c.if-field-lt-BIAS.true

pub float_from_bits-result-then-field-lt-WHOLE_FIELD : goal.float_from_bits-result-then-field-lt-WHOLE_FIELD
float_from_bits-result-then-field-lt-WHOLE_FIELD c =
    cleared_no_nan c.args.x (passes _ c.well_formed.0.1) c.if-is_nan.ensures.not_nan c.if-field-lt-BIAS.false c.if-field-lt-WHOLE_FIELD.true

pub returns-then-field-lt-WHOLE_FIELD : goal.returns-then-field-lt-WHOLE_FIELD
returns-then-field-lt-WHOLE_FIELD c =
    trunc_cleared c.args.x (passes _ c.well_formed.0.1) c.if-is_nan.ensures.not_nan c.if-field-lt-BIAS.false c.if-field-lt-WHOLE_FIELD.true

pub returns : goal.returns
returns c = trunc_whole c.args.x (passes _ c.well_formed.0.1) c.if-is_nan.ensures.not_nan c.if-field-lt-WHOLE_FIELD.false
