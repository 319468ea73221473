-- The natural logarithms `ln` and `ln_1p` of REQUIREMENTS 7, in its names and its order of operations. Definitions only.
use Rattle.std.specs.Prelude.{ℕ, ◌-◌, ◌*◌, ◌/◌, ◌^◌, Bool, true, false, cond, ◌&&◌, ◌||◌, nat_lt, Float}
use Rattle.std.specs.Float.{nan, inf, binary64}
use Rattle.std.specs.Float.Ieee.{low, minus, size, round, add, sub, mul, div, of_int, is_nan, lt, eq, le, of_bits}
use Rattle.std.specs.Float.Ieee.Scale.{finite}
use Rattle.std.specs.Float.Ieee.Positive.{num, den}
use Rattle.arithmetic.specs.Exp.{ln2_hi as H, ln2_lo as L}
use Rattle.arithmetic.specs.Operations.{◌⊕◌, ◌⊖◌, ◌⊗◌, ◌⊘◌, bits, plus_zero, half, one, two}

-- coefficients of ln ((1 + s) / (1 - s)) / s = 2 + G1 s ^ 2 + G2 s ^ 4 + ..
abbrev pub G1 : Float
G1 = bits 0x3FE5_5555_5555_5593

abbrev pub G2 : Float
G2 = bits 0x3FD9_9999_9997_FA04

abbrev pub G3 : Float
G3 = bits 0x3FD2_4924_9422_9359

abbrev pub G4 : Float
G4 = bits 0x3FCC_71C5_1D8E_78AF

abbrev pub G5 : Float
G5 = bits 0x3FC7_4664_96CB_03DE

abbrev pub G6 : Float
G6 = bits 0x3FC3_9A09_D078_C69F

abbrev pub G7 : Float
G7 = bits 0x3FC2_F112_DF3E_5244

-- a finite x above zero is this number of units of 2 ^ -1074
abbrev pub in_units : Float → ℕ
in_units x = num x * 2 ^ low binary64 / den x

-- the p for which a / 2 ^ p lies from 3FE6A09E00000000, which is 741455 / 2 ^ 20, to below its double 3FF6A09E00000000: since
-- a / 2 ^ size a lies from 1 / 2 to below 1, it is size a, or one less where that fraction is below 741455 / 2 ^ 20
unfoldable pub place : ℕ → ℕ
unfolding size
place a = cond (nat_lt (a * 2 ^ 20) (741455 * 2 ^ size a)) (size a - 1) (size a)

-- m and k of x = m * 2 ^ k: with a for `in_units x` and p for its place, x is a / 2 ^ 1074 = a / 2 ^ p * 2 ^ (p - 1074)
unfoldable pub significand : Float → Float
unfolding place round
significand x = round binary64 false (in_units x) (2 ^ place (in_units x))

unfoldable pub exponent : Float → Float
unfolding place of_int
exponent x = of_int binary64 (minus (place (in_units x)) (low binary64))

-- the result by f, k and kl, which is k L in `ln` and k L + c in `ln_1p`
unfoldable pub series : Float → Float → Float → Float
unfolding of_bits add sub mul div
series f k kl =
    let s = f ⊘ (two ⊕ f) in
    let z = s ⊗ s in
    let w = z ⊗ z in
    let g = half ⊗ f ⊗ f in
    let R = z ⊗ (G1 ⊕ w ⊗ (G3 ⊕ w ⊗ (G5 ⊕ w ⊗ G7))) ⊕ w ⊗ (G2 ⊕ w ⊗ (G4 ⊕ w ⊗ G6)) in
    s ⊗ (g ⊕ R) ⊕ kl ⊖ g ⊕ f ⊕ k ⊗ H

-- zeros give -infinity, NaN and what is below 0 NaN, infinity itself
unfoldable pub ln : Float → Float
unfolding series significand exponent is_nan lt eq
ln x =
    let k = exponent x in
    let f = significand x ⊖ one in
    cond (eq x plus_zero) (inf true) (cond (is_nan x || lt x plus_zero) nan (cond (finite x) (series f k (k ⊗ L)) x))

-- the range of `ln_1p`, both ends inside: not below -0.25, and not above 1.5
abbrev pub from_least : Float → Bool
from_least u = le (bits 0xBFD0_0000_0000_0000) u

abbrev pub to_most : Float → Bool
to_most u = le u (bits 0x3FF8_0000_0000_0000)

-- the logarithm of 1 + u, for a u in the range; 3FDA000000000000 is 0.40625
unfoldable pub ln1p : Float → Float
unfolding series significand exponent lt le
ln1p u =
    let v = one ⊕ u in
    let k = exponent v in
    let f = significand v ⊖ one in
    let c = (u ⊖ (v ⊖ one)) ⊘ v in
    cond (from_least u && to_most u)
    (cond (lt u (bits 0x3FDA_0000_0000_0000)) (series u plus_zero (plus_zero ⊗ L ⊕ plus_zero)) (series f k (k ⊗ L ⊕ c)))
    nan
