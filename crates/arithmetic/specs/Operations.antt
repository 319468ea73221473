-- The operations of binary64 as operators, and the constants that the definitions share, Rust's among them. Definitions only.
use Rattle.std.specs.Prelude.{ℕ, from_bits, Float}
use Rattle.std.specs.Float.{binary64}
use Rattle.std.specs.Float.Ieee.{add, sub, mul, div}

infixl 6 ◌⊕◌
infixl 6 ◌⊖◌
infixl 7 ◌⊗◌
infixl 7 ◌⊘◌
-- the sum, the difference, the product and the quotient, each rounded once
abbrev pub ◌⊕◌ : Float → Float → Float
◌⊕◌ x y = add binary64 x y

abbrev pub ◌⊖◌ : Float → Float → Float
◌⊖◌ x y = sub binary64 x y

abbrev pub ◌⊗◌ : Float → Float → Float
◌⊗◌ x y = mul binary64 x y

abbrev pub ◌⊘◌ : Float → Float → Float
◌⊘◌ x y = div binary64 x y

-- the value of a bit pattern: what a literal in code is
abbrev pub bits : ℕ → Float
bits b = from_bits binary64 b

abbrev pub plus_zero : Float
plus_zero = bits 0

abbrev pub half : Float
half = bits 0x3FE0_0000_0000_0000

abbrev pub one : Float
one = bits 0x3FF0_0000_0000_0000

abbrev pub two : Float
two = bits 0x4000_0000_0000_0000

-- `f64::MIN_POSITIVE`, the smallest normal value 2 ^ -1022; `f64::MAX`; `f64::INFINITY`; `f64::EPSILON`, 2 ^ -52
abbrev pub min_positive : Float
min_positive = bits 0x0010_0000_0000_0000

abbrev pub max_finite : Float
max_finite = bits 0x7FEF_FFFF_FFFF_FFFF

abbrev pub infinity : Float
infinity = bits 0x7FF0_0000_0000_0000

abbrev pub epsilon : Float
epsilon = bits 0x3CB0_0000_0000_0000

-- `SQRT_2` and `FRAC_1_SQRT_2` of `core::f64::consts`
abbrev pub sqrt2 : Float
sqrt2 = bits 0x3FF6_A09E_667F_3BCD

abbrev pub frac1_sqrt2 : Float
frac1_sqrt2 = bits 0x3FE6_A09E_667F_3BCD
