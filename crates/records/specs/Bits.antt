-- The text of a figure's bits.
use Rattle.std.specs.Prelude.{ℕ, ◌-◌, ◌^◌, false, if◌then◌else◌, List, [], Float, codes, is_nan}
use Rattle.std.specs.Float.{binary64}
use Rattle.std.specs.Float.Ieee.{to_bits}
use Rattle.std.specs.Fmt.{digits, padded_integral, format_spec}

-- the 16 hexadecimal digits of a number below 2^64, in lower case, as `{:016x}` writes them
abbrev pub sixteen_digits : ℕ → List ℕ
sixteen_digits n = padded_integral (format_spec 32 0 4 16 (2 ^ 64 - 1)) false [] (digits 16 false n)

-- `nan`, or the digits of the bits
abbrev pub bits_text : Float → List ℕ
bits_text x = if is_nan x then codes "nan" else sixteen_digits (to_bits binary64 x)
