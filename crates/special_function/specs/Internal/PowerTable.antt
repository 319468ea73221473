-- The table of `power_at`: exponentials of squares of multiples of 1/16. Definitions only.
use Rattle.std.specs.Prelude.{false, ℕ, Float}
use Rattle.std.specs.Float.{binary64}
use Rattle.std.specs.Float.Ieee.{round, neg}
use Rattle.arithmetic.specs.Operations.{◌⊗◌}
use Rattle.arithmetic.specs.Exp.{exp}

-- j / 16
abbrev pub sixteenths : ℕ → Float
sixteenths j = round binary64 false j 16

unfoldable pub power_at : ℕ → Float
power_at j = exp (neg (sixteenths j ⊗ sixteenths j))
