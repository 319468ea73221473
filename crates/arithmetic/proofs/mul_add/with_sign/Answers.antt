-- `mul_add::with_sign` meets its contract: such bits are no NaN's. Assumes nothing.
use Rattle.std.proofs.Common.{arith}
use Rattle.arithmetic.specs.Laws.Patterns.{bits_no_nan}
use Rattle.arithmetic.proofs.mul_add.with_sign.Goals as goal

pub float_from_bits-result : goal.float_from_bits-result
float_from_bits-result c = bits_no_nan _ (omega arith)

pub float_from_bits-result-else-negative : goal.float_from_bits-result-else-negative
float_from_bits-result-else-negative c = bits_no_nan _ (omega arith)
