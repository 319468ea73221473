-- What `exp` gives is a value of binary64. Assumes nothing.
use Rattle.std.specs.Prelude.{◌*◌, T, ℤ, is_nan, Float}
use Rattle.std.specs.Float.{nan, inf, fin, binary64}
use Rattle.std.specs.Float.Ieee.{up, down, lt, to_signed, fits}
use Rattle.std.specs.Float.Ieee.Fits.{cond-fits, nan-fits, inf-fits, round-fits}
use Rattle.std.specs.Float.Ieee.Bits.{of_bits-fits}
use Rattle.arithmetic.specs.Basic.{is_sign_minus, trunc}
use Rattle.arithmetic.specs.Exp.{o_threshold, u_threshold, half_away, reduced, scale_b, exp}

scale_b_fits : (y : Float) (k : ℤ) → T (fits binary64 (scale_b y k))
unfolding scale_b
scale_b_fits nan k = nan-fits binary64
scale_b_fits (inf s) k = inf-fits binary64 s
scale_b_fits (fin s m e) k = round-fits binary64 s (m * up e * up k) (down e * down k)

pub exp_fits : (x : Float) → T (fits binary64 (exp x))
unfolding exp
exp_fits x =
    let k = trunc (half_away (is_sign_minus x) x) in
    cond-fits binary64 (is_nan x) _ _ (nan-fits binary64)
    (cond-fits binary64 (lt o_threshold x) _ _ (of_bits-fits binary64 0x7FF0_0000_0000_0000)
    (cond-fits binary64 (lt x u_threshold) _ _ (of_bits-fits binary64 0)
    (scale_b_fits (reduced x k) (to_signed 63 k))))
