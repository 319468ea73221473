-- IEEE 754-2019's fusedMultiplyAdd at binary64, as an exact product and an exact sum of fractions that is rounded once.
use Rattle.std.specs.Prelude.{◌*◌, Bool, cond, ◌==◌, Float}
use Rattle.std.specs.Bool.{beq}
use Rattle.std.specs.Float.{nan, inf, fin, binary64}
use Rattle.std.specs.Float.Ieee.{up, down, unlike, sum}

-- an infinite product of the sign s, and the third operand: NaN where that is the other infinity
unfoldable pub infinity_plus : Bool → Float → Float
infinity_plus s nan = nan
infinity_plus s (inf u) = cond (beq s u) (inf s) nan
infinity_plus s (fin u k g) = inf s

-- x * a + b; of finite operands product and addend stand over one denominator
unfoldable pub mul_add : Float → Float → Float → Float
unfolding sum infinity_plus
mul_add nan a b = nan
mul_add (inf s) nan b = nan
mul_add (inf s) (inf t) b = infinity_plus (unlike s t) b
mul_add (inf s) (fin t n d) b = cond (n == 0) nan (infinity_plus (unlike s t) b)
mul_add (fin s m e) nan b = nan
mul_add (fin s m e) (inf t) b = cond (m == 0) nan (infinity_plus (unlike s t) b)
mul_add (fin s m e) (fin t n d) nan = nan
mul_add (fin s m e) (fin t n d) (inf u) = inf u
mul_add (fin s m e) (fin t n d) (fin u k g) =
    let product = m * up e * (n * up d) * down g in
    let addend = k * up g * (down e * down d) in
    sum binary64 (unlike s t) product u addend (down e * down d * down g)
