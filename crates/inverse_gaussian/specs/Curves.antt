-- The curves of explicit_black.rs: the inverse Gaussian distribution with mean mu, its survival and its density (REQUIREMENTS 10.6), and the guess from
-- which a search starts (10.7). Definitions only.
use Rattle.std.specs.Prelude.{Bool, cond, ◌&&◌, Float}
use Rattle.std.specs.Float.Ieee.{neg, lt, le}
use Rattle.arithmetic.specs.Operations.{◌⊕◌, ◌⊖◌, ◌⊗◌, ◌⊘◌, bits, plus_zero, half, two, frac1_sqrt2}
use Rattle.arithmetic.specs.Basic.{recip, is_finite}
use Rattle.arithmetic.specs.Sqrt.{sqrt}
use Rattle.arithmetic.specs.MulAdd.{mul_add}
use Rattle.arithmetic.specs.Exp.{exp}
use Rattle.special_function.specs.ErrorFunction.{erfcx_cody}
use Rattle.special_function.specs.NormalDistribution.{norm_pdf, norm_cdf, inverse_norm_cdf}
use Rattle.bs_option_price.specs.BsOptionPrice.{normalised_black}

-- finite and above 0: the source writes the two tests in either order, and also denied
abbrev pub finite_positive : Float → Bool
finite_positive x = is_finite x && lt plus_zero x

-- `inverse_gaussian_survival`: the probability of the upper tail, which is a normalised Black price divided by its bound exp(-1 / mu)
unfoldable pub inverse_gaussian_survival : Float → Float → Float
inverse_gaussian_survival x mu =
    let sqrt_x = sqrt x in
    normalised_black (neg (recip mu)) (neg sqrt_x ⊘ mu) (recip sqrt_x) ⊘ exp (neg (recip mu))

-- `inverse_gaussian_quantile_initial_guess_from_z`, with two fused multiply-adds
unfoldable pub inverse_gaussian_quantile_initial_guess_from_z : Float → Float → Float
inverse_gaussian_quantile_initial_guess_from_z z mu =
    let sqrt_discriminant = sqrt (mul_add mu (mu ⊗ z ⊗ z) (bits 0x4010_0000_0000_0000 ⊗ mu)) in  -- 4.0
    let sqrt_x = cond (le plus_zero z) (half ⊗ mul_add mu z sqrt_discriminant) (two ⊗ mu ⊘ (sqrt_discriminant ⊖ mu ⊗ z)) in
    sqrt_x ⊗ sqrt_x

-- `inverse_gaussian_quantile_initial_guess`, from the probability of the lower tail
unfoldable pub inverse_gaussian_quantile_initial_guess : Float → Float → Float
inverse_gaussian_quantile_initial_guess probability mu = inverse_gaussian_quantile_initial_guess_from_z (inverse_norm_cdf probability) mu

-- where a search starts: the guess, or mu where the guess is not finite and positive
unfoldable pub starting_point : Float → Float → Float
starting_point guess mu = cond (finite_positive guess) guess mu

-- `inverse_gaussian_cdf`: the probability of the lower tail
unfoldable pub inverse_gaussian_cdf : Float → Float → Float
inverse_gaussian_cdf x mu =
    let sqrt_x = sqrt x in
    let inv_sqrt_x = recip sqrt_x in
    let leading = sqrt_x ⊘ mu in
    let a = leading ⊖ inv_sqrt_x in
    let reflected = leading ⊕ inv_sqrt_x in
    norm_cdf a ⊕ half ⊗ exp (neg half ⊗ a ⊗ a) ⊗ erfcx_cody (reflected ⊗ frac1_sqrt2)

-- `inverse_gaussian_pdf`: the density
unfoldable pub inverse_gaussian_pdf : Float → Float → Float
inverse_gaussian_pdf x mu =
    let sqrt_x = sqrt x in
    let a = sqrt_x ⊘ mu ⊖ recip sqrt_x in
    norm_pdf (a ⊗ a) ⊘ (x ⊗ sqrt_x)
