-- Neither the 2,098 doublings nor the 2,045 halvings can be fewer: both are met where every comparison with the probability fails, from the
-- smallest value up and from the largest down. The probability is NaN here, so that no curve has to be computed; no search passes in NaN. Assumes nothing.
use mathlib.Core.Path.{◌≡◌, refl}
use lib.Ieee.{Float, nan, mul, lt, le, eq, of_bits}
use Rattle.arithmetic.specs.Operations.{bits, max_finite}
use Rattle.inverse_gaussian.specs.Loops.{iterate}
use Rattle.inverse_gaussian.specs.Bracket.{doubled, doubled_from, widened, doublings, bracket_quantile_from_below, halved, halvings}
use Rattle.inverse_gaussian.specs.Survival.{survival_lowered, survival_from_above}

most_doublings : (mu : Float) → (bracket_quantile_from_below (bits 1) mu nan).count ≡ 2098
unfolding bracket_quantile_from_below doublings iterate doubled_from widened doubled lt le eq mul of_bits
most_doublings mu = refl

most_halvings : (mu : Float) → (survival_from_above max_finite mu nan).count ≡ 2045
unfolding survival_from_above halvings iterate halved survival_lowered lt le eq mul of_bits
most_halvings mu = refl
