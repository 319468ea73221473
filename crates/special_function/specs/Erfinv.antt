-- `erfinv` of error_function.rs, which needs the inverses of normal_distribution.rs. Definitions only.
use Rattle.std.specs.Prelude.{cond, Float}
use Rattle.std.specs.Float.Ieee.{neg, lt}
use Rattle.arithmetic.specs.Operations.{◌⊗◌, plus_zero, half, two, frac1_sqrt2}
use Rattle.arithmetic.specs.Basic.{abs, mul_add2_sel}
use Rattle.special_function.specs.NormalDistribution.{u_max, inverse_norm_cdfm_half_for_midrange_probabilities, inverse_norm_cdf_for_low_probabilities}

-- the x with erf x = e
unfoldable pub erfinv : Float → Float
erfinv e =
    cond (lt (abs e) (two ⊗ u_max)) (inverse_norm_cdfm_half_for_midrange_probabilities (half ⊗ e) ⊗ frac1_sqrt2)
    (cond (lt e plus_zero) (inverse_norm_cdf_for_low_probabilities (mul_add2_sel e half half))
    (neg (inverse_norm_cdf_for_low_probabilities (mul_add2_sel e (neg half) half)))
    ⊗ frac1_sqrt2)
