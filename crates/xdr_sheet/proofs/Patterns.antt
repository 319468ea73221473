-- Which floats are NaN, and the pattern that NaN has here. Assumes nothing.
use mathlib.Core.Path.{◌≡◌, refl}
use mathlib.Core.Bool.{true, false≢true}
use lib.Ieee.{Float, nan, inf, fin, binary64, of_bits, to_bits, is_nan}

pub nan_is : of_bits binary64 0x7ff8_0000_0000_0000 ≡ nan
unfolding of_bits
nan_is = refl

pub tested_nan : (x : Float) → is_nan x ≡ true → x ≡ nan
unfolding is_nan
tested_nan nan h = refl
tested_nan (inf s) h = absurd (false≢true h)
tested_nan (fin s m e) h = absurd (false≢true h)

pub nan_pattern : (x : Float) → is_nan x ≡ true → 0x7ff8_0000_0000_0000 ≡ to_bits binary64 x
unfolding to_bits
nan_pattern x h = rw (tested_nan x h)
