-- `exp::fast` meets its contract, by the laws of `ExpFast`. Assumes nothing.
use Rattle.std.proofs.Common.{arith}
use denote.Floats.{passes}
use Rattle.arithmetic.proofs.ExpFast.{sum_no_nan, pattern_ge, pattern_lt, power_no_nan, fast_is}
use Rattle.arithmetic.proofs.exp.fast.Goals as goal

pub float_to_bits-field : goal.float_to_bits-field
float_to_bits-field c = sum_no_nan c.args.x (passes _ c.well_formed.0.1) c.requires.in_range

pub overflow_sub-field : goal.overflow_sub-field
overflow_sub-field c = pattern_ge c.args.x (passes _ c.well_formed.0.1) c.requires.in_range

pub overflow_mul-result : goal.overflow_mul-result
overflow_mul-result c = omega (arith, pattern_lt c.args.x (passes _ c.well_formed.0.1) c.requires.in_range)

pub float_from_bits-result : goal.float_from_bits-result
float_from_bits-result c = power_no_nan c.args.x (passes _ c.well_formed.0.1) c.requires.in_range

pub returns : goal.returns
returns c = fast_is c.args.x (passes _ c.well_formed.0.1) c.requires.in_range c.requires.no_tie c.reduced.result c.reduced.ensures
