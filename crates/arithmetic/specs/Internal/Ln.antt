-- What `decompose_bits` promises: the m and the k of `ln`, read off a bit pattern whose exponent's field is counted from 52 on. Definitions only.
use Rattle.std.specs.Prelude.{ℕ, ◌+◌, ◌-◌, ◌/◌, ◌%◌, Float}
use Rattle.std.specs.Float.{binary64}
use Rattle.std.specs.Float.Ieee.{minus, of_int}
use Rattle.arithmetic.specs.Operations.{bits}

-- m has the pattern's fraction, and lies from 3FE6A09E00000000 to below its double; 4503599627370496 is 2 ^ 52
abbrev pub significand_of_bits : ℕ → Float
significand_of_bits b = bits ((b - 0x6a09e00000000) % 4503599627370496 + 0x3fe6a09e00000000)

abbrev pub exponent_of_bits : ℕ → Float
exponent_of_bits b = of_int binary64 (minus ((b - 0x6a09e00000000) / 4503599627370496) 1074)
