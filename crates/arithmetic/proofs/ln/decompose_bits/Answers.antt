-- `ln::decompose_bits` meets its contract: k is the difference of two whole numbers, by `sub_whole`. Assumes nothing.
use Rattle.std.proofs.Common.{◌≡◌, ◌-◌, ◌/◌, pos, refl, ap, ◌∙◌, arith, lit≤}
use lib.Ieee.{binary64, sub, of_int, of_bits}
use Rattle.arithmetic.specs.Laws.Patterns.{bits_no_nan}
use Rattle.arithmetic.proofs.LnPaths.{sub_whole}
use Rattle.arithmetic.proofs.ln.decompose_bits.Goals as goal

literal : of_bits binary64 4652438317399277568 ≡ of_int binary64 (pos 1074)
unfolding of_bits of_int
literal = refl

pub float_from_bits-result : goal.float_from_bits-result
float_from_bits-result c = bits_no_nan _ (omega arith)

pub returns : goal.returns
returns c = let n = (c.args.b - 0x6a09e00000000) / 4503599627370496 in
    (refl, ap (sub binary64 (of_int binary64 (pos n))) literal ∙ sub_whole n 1074 (omega arith) (lit≤ tt))
