-- `basic::abs` meets its contract: the pattern without its sign is that of the magnitude, by `abs_bits`. Assumes nothing.
use Rattle.std.proofs.Common.{sym}
use denote.Floats.{passes}
use lib.Ieee.{div}
use Rattle.arithmetic.specs.Basic.{abs}
use Rattle.arithmetic.specs.Laws.Signs.{abs_bits, abs_no_nan}
use Rattle.arithmetic.proofs.Methods.{nan_of}
use Rattle.arithmetic.proofs.basic.abs.Goals as goal

pub returns-then-is_nan : goal.returns-then-is_nan
unfolding abs div
returns-then-is_nan c = rw (nan_of c.args.x c.if-is_nan.ensures.value)

pub float_from_bits-result : goal.float_from_bits-result
float_from_bits-result c = abs_no_nan c.args.x (passes _ c.well_formed.0.1) (sym c.if-is_nan.ensures.value)

pub returns : goal.returns
returns c = abs_bits c.args.x (passes _ c.well_formed.0.1)
