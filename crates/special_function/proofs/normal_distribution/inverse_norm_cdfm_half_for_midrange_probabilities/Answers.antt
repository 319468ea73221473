-- `normal_distribution::inverse_norm_cdfm_half_for_midrange_probabilities` meets its contract: the operations are the definition's, and the code's
-- U_MAX2 is the square, computed. Assumes nothing.
use mathlib.Core.Path.{◌≡◌, refl}
use lib.Ieee.{mul, of_bits}
use Rattle.arithmetic.specs.Operations.{◌⊗◌, bits}
use Rattle.special_function.specs.NormalDistribution.{u_max, inverse_norm_cdfm_half_for_midrange_probabilities}
use Rattle.special_function.proofs.normal_distribution.inverse_norm_cdfm_half_for_midrange_probabilities.Goals as goal

square : u_max ⊗ u_max ≡ bits 0x3FBD_D402_0DA6_4FF1
unfolding mul of_bits
square = refl

pub returns : goal.returns
unfolding inverse_norm_cdfm_half_for_midrange_probabilities
returns c = cc square
