-- The constants of constants.rs that the kept functions use, by the bits that the source gives. Rust's own stand in arithmetic's Operations.antt.
-- Definitions only.
use Rattle.std.specs.Prelude.{Float}
use Rattle.arithmetic.specs.Operations.{bits}

-- √(π/2)
abbrev pub sqrt_pi_over2 : Float
sqrt_pi_over2 = bits 0x3FF4_0D93_1FF6_2706

-- 2 ^ (-52 / 16), by the source's literal, which is one unit in the last place above the nearest value
abbrev pub sixteenth_root_dbl_epsilon : Float
sixteenth_root_dbl_epsilon = bits 0x3FBA_E89F_995A_D3AE

-- 1/√(2π), for the vega; the density has `frac_sqrt2_pi`, with the same bits, as the source does
abbrev pub frac1_sqrt2_pi : Float
frac1_sqrt2_pi = bits 0x3FD9_8845_33D4_3650
