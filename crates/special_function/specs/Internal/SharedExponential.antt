-- The density where its exponential is already at hand. Definitions only.
use Rattle.std.specs.Prelude.{Bool, ◌&&◌, cond, eqb, Float}
use Rattle.std.specs.Float.{binary64}
use Rattle.std.specs.Float.Ieee.{neg, eq, to_bits}
use Rattle.arithmetic.specs.Operations.{◌⊗◌, half}
use Rattle.special_function.specs.NormalDistribution.{frac_sqrt2_pi, norm_pdf}

-- -a² / 2 in the two orders: the square first, and from left to right
abbrev pub square_first : Float → Float
square_first a = neg half ⊗ (a ⊗ a)

abbrev pub left_to_right : Float → Float
left_to_right a = neg half ⊗ a ⊗ a

-- equal numbers with equal bits
abbrev pub same : Float → Float → Bool
same x y = eq x y && eqb (to_bits binary64 x) (to_bits binary64 y)

-- the density at a by the exponential e of `left_to_right a`, or where that is another number than `square_first a` by its own
unfoldable pub norm_pdf_of_square : Float → Float → Float
norm_pdf_of_square a e = cond (same (square_first a) (left_to_right a)) (frac_sqrt2_pi ⊗ e) (norm_pdf (a ⊗ a))
