-- What steps of `basic` promise, of which `max` and `min`, and the tests of `exp` and `plus_ln_1p`, are made. Definitions only.
use Rattle.std.specs.Prelude.{Bool, cond, ◌&&◌, is_nan, Float}
use Rattle.std.specs.Float.Ieee.{lt, neg}
use Rattle.arithmetic.specs.Basic.{takes_first}

-- a NaN is dropped; of two numbers f where `takes_first` holds of them, and g where not
abbrev pub chosen : Float → Float → Float → Float → Float
chosen x y f g = cond (is_nan x) y (cond (is_nan y) x (cond (takes_first x y) f g))

-- x is a number of smaller magnitude than l
abbrev pub within : Float → Float → Bool
within x l = lt x l && lt (neg l) x
