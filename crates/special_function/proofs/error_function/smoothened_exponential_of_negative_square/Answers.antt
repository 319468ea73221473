-- `error_function::smoothened_exponential_of_negative_square` meets its contract: with the table by the laws of `Sixteenths`. Assumes nothing.
use denote.Floats.{passes}
use Rattle.special_function.proofs.Sixteenths.{in_table, no_nan, index_range, by_table}
use Rattle.special_function.proofs.error_function.smoothened_exponential_of_negative_square.Goals as goal

pub float_to_bits-t : goal.float_to_bits-t
float_to_bits-t c = no_nan _ (passes _ c.well_formed.0.1) (in_table _ (passes _ c.if-y.true))

pub power_at-requires : goal.power_at-requires
power_at-requires c =
    let asks = index_range _ (passes _ c.well_formed.0.1) (in_table _ (passes _ c.if-y.true)) (passes _ c.if-y_tilde-y.true) in
    record { at_least_7 = asks.0; below_44 = asks.1 }

pub returns-then-y_tilde-y : goal.returns-then-y_tilde-y
returns-then-y_tilde-y c =
    rw (c.power_at.ensures, c.exp.ensures) (by_table _ (passes _ c.well_formed.0.1) (in_table _ (passes _ c.if-y.true)) (passes _ c.if-y_tilde-y.true))
