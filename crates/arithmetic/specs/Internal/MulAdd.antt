-- Exponents of the steps of `mul_add`. Magnitudes are whole numbers of units: of 2 ^ -1074 for an operand, and of 2 ^ -2148 for the product and the
-- sum. So 2 ^ e is 2 ^ above 1074 e of the first, and 2 ^ above 2148 e of the second.
use Rattle.std.specs.Prelude.{◌≡◌, ℕ, ◌+◌, ◌-◌, ◌<◌, ℤ}
use Rattle.std.specs.Float.Ieee.{size}
use Rattle.arithmetic.specs.Internal.Exponent.{Exponent, above}

-- the exponent of an operand, a whole number below 2 ^ 53 times 2 ^ e
abbrev pub OperandExponent : ℤ → Type 0
OperandExponent = Exponent 1074 971

-- of a product of two operands, and of the two terms on one scale
abbrev pub TermExponent : ℤ → Type 0
TermExponent = Exponent 2148 1942

-- of the last digit that the rounded sum keeps: at most 1942 + 128 - 53, for a sum of 128 digits
abbrev pub KeptExponent : ℤ → Type 0
KeptExponent = Exponent 1074 2017

-- the rounded v * 2 ^ e, for a v that is not 0, has its last digit at 2 ^ at: 53 digits are kept, or those from 2 ^ -1074 on
pub record LastDigit (v : ℕ) (e at : ℤ) : Type 0 where
  pub some : 0 < size v
  pub kept : KeptExponent at
  pub is : above 1074 at ≡ size v + above 2148 e - 1127
