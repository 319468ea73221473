-- The tests of `exp`, and the sum from which its fast path takes k. Definitions only.
use Rattle.std.specs.Prelude.{Bool, Float}
use Rattle.arithmetic.specs.Operations.{◌⊕◌, ◌⊖◌, ◌⊗◌, bits}
use Rattle.arithmetic.specs.Exp.{inv_ln2}
use Rattle.arithmetic.specs.Internal.Basic.{within}

-- 11 / 32: for an x of smaller magnitude k is 0
abbrev pub near_limit : Float
near_limit = bits 0x3FD6_0000_0000_0000

abbrev pub near_zero : Float → Bool
near_zero x = within x near_limit

-- 708: for an x of smaller magnitude 2 ^ k is a normal number
abbrev pub fast_limit : Float
fast_limit = bits 0x4086_2000_0000_0000

-- x is a number between -708 and 708, far from where e ^ x overflows or is subnormal
abbrev pub in_fast_range : Float → Bool
in_fast_range x = within x fast_limit

-- 3 * 2 ^ 51 + 1023: values of this size are whole numbers, so the sum of x / ln 2 and this is rounded to the nearest
abbrev pub shift : Float
shift = bits 0x4338_0000_0000_03FF

abbrev pub shifted : Float → Float
shifted x = x ⊗ inv_ln2 ⊕ shift

-- 1 / 2 - 2 ^ -16, a little less than the distance of a tie
abbrev pub max_rest : Float
max_rest = bits 0x3FDF_FFC0_0000_0000

-- how far x / ln 2 is from the whole number that the sum gives
abbrev pub rest : Float → Float
rest x = x ⊗ inv_ln2 ⊖ (shifted x ⊖ shift)

-- x / ln 2 is clear of every tie, half way between two whole numbers, so the number that the sum gives is the k of `exp`
abbrev pub clear_of_tie : Float → Bool
clear_of_tie x = within (rest x) max_rest
