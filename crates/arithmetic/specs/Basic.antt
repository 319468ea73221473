-- The methods of `f64` that the source calls, and its `mul_add2_sel`. Definitions only.
-- `sqrt`, `mul_add`, `exp`, `ln` and `ln_1p` have files of their own.
use Rattle.std.specs.Prelude.{◌*◌, ◌/◌, Bool, true, false, cond, not, ◌||◌, is_nan, Float}
use Rattle.std.specs.Float.{nan, inf, fin, binary64}
use Rattle.std.specs.Float.Ieee.{up, down, round, neg, lt}
use Rattle.std.specs.Float.Ieee.Scale.{finite}
use Rattle.arithmetic.specs.Operations.{◌⊕◌, ◌⊗◌, ◌⊘◌, one}

-- IEEE 754-2019's is_sign_minus: the sign is set, as that of -0 is; a NaN has none
abbrev pub is_sign_minus : Float → Bool
is_sign_minus nan = false
is_sign_minus (inf s) = s
is_sign_minus (fin s m e) = s

-- the same magnitude with the sign clear
unfoldable pub abs : Float → Float
abs nan = nan
abs (inf s) = inf false
abs (fin s m e) = fin false m e

-- 1 with the sign of x, and of NaN NaN
unfoldable pub signum : Float → Float
signum nan = nan
signum (inf s) = cond s (neg one) one
signum (fin s m e) = cond s (neg one) one

-- the whole part, toward zero, with the sign of x
unfoldable pub trunc : Float → Float
unfolding round
trunc nan = nan
trunc (inf s) = inf s
trunc (fin s m e) = round binary64 s (m * up e / down e) 1

-- whether `max` takes x rather than y, by x < y, y < x and the sign of x: the larger, and of two that are equal, which may be zeros, x where
-- its sign is clear
abbrev pub takes_first_by : Bool → Bool → Bool → Bool
takes_first_by l g s = cond l false (cond g true (not s))

abbrev pub takes_first : Float → Float → Bool
takes_first x y = takes_first_by (lt x y) (lt y x) (is_sign_minus x)

-- the larger and the smaller of two; a NaN is dropped; of two zeros `max` is +0 if either is, and `min` -0 if either is
unfoldable pub max : Float → Float → Float
max x y = cond (is_nan x) y (cond (is_nan y) x (cond (takes_first x y) x y))

unfoldable pub min : Float → Float → Float
min x y = cond (is_nan x) y (cond (is_nan y) x (cond (takes_first x y) y x))

abbrev pub recip : Float → Float
recip x = one ⊘ x

abbrev pub is_finite : Float → Bool
is_finite x = finite x

abbrev pub is_infinite : Float → Bool
is_infinite x = not (finite x || is_nan x)

-- `mul_add2_sel`, without the source's feature `fma`: the product is rounded, then the sum
abbrev pub mul_add2_sel : Float → Float → Float → Float
mul_add2_sel x a b = x ⊗ a ⊕ b
