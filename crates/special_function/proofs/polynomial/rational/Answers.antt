-- `polynomial::rational` meets its contract: a NaN above is the quotient. Assumes nothing.
use Rattle.std.proofs.Common.{◌≡◌, refl, true, Float}
use Rattle.std.specs.Float.{nan, inf, fin}
use Rattle.std.specs.Float.Ieee.{is_nan, div}
use Rattle.arithmetic.specs.Operations.{◌⊘◌}
use Rattle.special_function.proofs.polynomial.rational.Goals as goal

nan_over : (x d : Float) → is_nan x ≡ true → x ≡ x ⊘ d
unfolding is_nan div
nan_over nan d h = refl
nan_over (inf s) d h = absurd (cc)
nan_over (fin s m e) d h = absurd (cc)

pub returns-then-is_nan : goal.returns-then-is_nan
returns-then-is_nan c = rw (← c.nested-above.ensures) (nan_over _ _ (cc))
