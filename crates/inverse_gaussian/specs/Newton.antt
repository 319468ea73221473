-- `inverse_gaussian_quantile_actuar` and what it calls: Newton steps on the variable divided by mu (REQUIREMENTS 10.8). Definitions only.
use Rattle.std.specs.Prelude.{Bool, cond, Float}
use Rattle.std.specs.Float.Ieee.{neg, lt, le}
use Rattle.arithmetic.specs.Operations.{◌⊕◌, ◌⊖◌, ◌⊗◌, ◌⊘◌, bits, plus_zero, half, one, min_positive}
use Rattle.arithmetic.specs.Basic.{abs, signum, max, recip}
use Rattle.arithmetic.specs.Sqrt.{sqrt}
use Rattle.arithmetic.specs.Exp.{exp}
use Rattle.arithmetic.specs.Ln.{ln, ln1p}
use Rattle.special_function.specs.NormalDistribution.{inverse_norm_cdf}
use Rattle.inverse_gaussian.specs.Counted.{Option, some, none, Counted, tick}
use Rattle.inverse_gaussian.specs.Loops.{Next, go, stop, Loop, iterate}
use Rattle.inverse_gaussian.specs.Curves.{finite_positive, inverse_gaussian_cdf, inverse_gaussian_pdf, inverse_gaussian_quantile_initial_guess}

-- `inverse_gaussian_mode_standardized`
unfoldable pub inverse_gaussian_mode_standardized : Float → Float
inverse_gaussian_mode_standardized phi =
    let kappa = bits 0x3FF8_0000_0000_0000 ⊗ phi in  -- 1.5
    let reciprocal = half ⊘ kappa in
    cond (le kappa (bits 0x408F_4000_0000_0000))  -- 1.0e3
    (recip (sqrt (one ⊕ kappa ⊗ kappa) ⊕ kappa))
    (reciprocal ⊗ (one ⊖ reciprocal ⊗ reciprocal))

-- `inverse_gaussian_cdf_standardized`
abbrev pub inverse_gaussian_cdf_standardized : Float → Float → Float
inverse_gaussian_cdf_standardized x phi = inverse_gaussian_cdf (x ⊗ phi) phi

-- `inverse_gaussian_pdf_standardized`
abbrev pub inverse_gaussian_pdf_standardized : Float → Float → Float
inverse_gaussian_pdf_standardized x phi = phi ⊗ inverse_gaussian_pdf (x ⊗ phi) phi

-- a step's numerator, the probability less a cdf above 0: by their logarithms where these differ by less than 1.0e-5
unfoldable pub numerator : Float → Float → Float → Float
numerator cdf probability log_probability =
    let delta = log_probability ⊖ ln cdf in
    cond (lt plus_zero cdf)
    (cond (lt (abs delta) (bits 0x3EE4_F8B5_88E3_68F1)) (delta ⊗ exp (log_probability ⊕ ln1p (neg half ⊗ delta))) (probability ⊖ cdf))  -- 1.0e-5
    probability

-- a Newton step: the move error / pdf, or none where the density pdf is not finite and positive
unfoldable pub nrstep : Float → Float → Option Float
nrstep pdf error = cond (finite_positive pdf) (some (error ⊘ pdf)) none

-- `inverse_gaussian_nrstep_standardized`, where the distribution at x is cdf
abbrev pub inverse_gaussian_nrstep_standardized : Float → Float → Float → Float → Float → Option Float
inverse_gaussian_nrstep_standardized x cdf probability log_probability phi =
    nrstep (inverse_gaussian_pdf_standardized x phi) (numerator cdf probability log_probability)

-- where the steps start, by the logarithm of the probability
unfoldable pub seed : Float → Float → Float → Float
seed probability log_probability mu =
    let z = inverse_norm_cdf probability in
    let mode = inverse_gaussian_mode_standardized mu in
    cond (lt log_probability (bits 0xC027_051E_B851_EB85)) (one ⊘ (mu ⊗ z ⊗ z))  -- -11.51
    (cond (lt (bits 0xBEE4_F8B5_88E3_68F1) log_probability) (max (inverse_gaussian_quantile_initial_guess probability mu ⊘ mu) mode)  -- -1.0e-5
    mode)

-- the seed; where that is not finite and positive, the larger of the mode and the smallest normal value
unfoldable pub initial_x : Float → Float → Float → Float
initial_x probability log_probability mu =
    let x = seed probability log_probability mu in
    cond (finite_positive x) x (max (inverse_gaussian_mode_standardized mu) min_positive)

-- a move dx to x is small, relative to x: ACTUAR_RELATIVE_QUANTILE_TOLERANCE is 1.0e-14
unfoldable pub converged : Float → Float → Bool
converged dx x = le (abs dx ⊘ x) (bits 0x3D06_849B_86A1_2B9B)

-- A state of the steps is x and the direction of the first move. After a move dx to x there is no root where x is not finite and positive; where the move was
-- small, x * mu is the root.
unfoldable pub after_move : Float → Float → Float → Float → Next (Float × Float) (Option Float)
after_move mu x dx direction =
    cond (finite_positive x) (cond (converged dx x) (stop (some (x ⊗ mu))) (go (x, direction)))
    (stop none)

-- after the first step, from x: its sign is the direction
unfoldable pub first : Float → Float → Option Float → Next (Float × Float) (Option Float)
first mu x (some dx) = after_move mu (x ⊕ dx) dx (signum dx)
first mu x none = stop none

-- after a later step: a move against the direction is not made, and x * mu is the root
unfoldable pub later : Float → Float → Float → Option Float → Next (Float × Float) (Option Float)
later mu x direction (some dx) = cond (lt (dx ⊗ direction) plus_zero) (stop (some (x ⊗ mu))) (after_move mu (x ⊕ dx) dx direction)
later mu x direction none = stop none

-- the steps after the first
abbrev pub newton_loop : Float → Float → Float → Loop (Float × Float) (Option Float)
newton_loop probability log_probability mu = record {
  ask = λ x. inverse_gaussian_cdf_standardized x mu;
  point = λ s. s.0;
  advance = λ s cdf. later mu s.0 s.1 (inverse_gaussian_nrstep_standardized s.0 cdf probability log_probability mu);
  out = λ s. some (s.0 ⊗ mu);
}

-- the root where no step is left
abbrev pub last : Float → Next (Float × Float) (Option Float) → Option Float
last mu (stop t) = t
last mu (go s) = some (s.0 ⊗ mu)

-- ACTUAR_MAX_QUANTILE_ITERATIONS is 100: the first step and 99 more
unfoldable pub steps : Float → Float → Float → Next (Float × Float) (Option Float) → Counted (Option Float)
steps probability log_probability mu n = iterate (newton_loop probability log_probability mu) 99 n

-- `inverse_gaussian_quantile_actuar`
unfoldable pub inverse_gaussian_quantile_actuar : Float → Float → Counted (Option Float)
inverse_gaussian_quantile_actuar probability mu =
    let log_probability = ln probability in
    let x = initial_x probability log_probability mu in
    let cdf = inverse_gaussian_cdf_standardized x mu in
    tick (steps probability log_probability mu (first mu x (inverse_gaussian_nrstep_standardized x cdf probability log_probability mu)))
