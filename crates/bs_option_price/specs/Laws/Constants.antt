-- The constant TAU, which the source writes as a product, is that product. Assumes nothing.
use Rattle.std.specs.Prelude.{◌≡◌, refl}
use Rattle.std.specs.Float.Ieee.{of_bits, mul}
use Rattle.arithmetic.specs.Operations.{◌⊗◌, two}
use Rattle.special_function.specs.Constants.{sixteenth_root_dbl_epsilon}
use Rattle.bs_option_price.specs.BsOptionPrice.{tau}

pub tau_is : two ⊗ sixteenth_root_dbl_epsilon ≡ tau
unfolding mul of_bits
tau_is = refl
