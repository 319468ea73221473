-- `exp::power` meets its contract: a law of `ExpPower` for a subnormal power, and one for any other. Assumes nothing.
use Rattle.std.proofs.Common.{arith}
use Rattle.arithmetic.proofs.ExpPower.{pattern_no_nan, subnormal_power, normal_power}
use Rattle.arithmetic.proofs.exp.power.Goals as goal

pub float_from_bits-result : goal.float_from_bits-result
float_from_bits-result c = pattern_no_nan _ c.args.e (subnormal_power c.args.e (omega arith) c.if-e-lt-PRECISION.true)

pub float_from_bits-result-else-e-lt-PRECISION : goal.float_from_bits-result-else-e-lt-PRECISION
float_from_bits-result-else-e-lt-PRECISION c = pattern_no_nan _ c.args.e (normal_power c.args.e c.if-e-lt-PRECISION.false (omega arith))

pub returns-then-e-lt-PRECISION : goal.returns-then-e-lt-PRECISION
returns-then-e-lt-PRECISION c = subnormal_power c.args.e (omega arith) c.if-e-lt-PRECISION.true

pub returns-else-e-lt-PRECISION : goal.returns-else-e-lt-PRECISION
returns-else-e-lt-PRECISION c = normal_power c.args.e c.if-e-lt-PRECISION.false (omega arith)
