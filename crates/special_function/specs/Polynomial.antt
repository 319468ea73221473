-- A polynomial by Horner's rule, each step rounded twice. Definitions only.
use Rattle.std.specs.Prelude.{List, [], ◌∷◌, ℕ, ◌-◌, get_or, take, drop, Float}
use Rattle.std.specs.Float.{nan}
use Rattle.arithmetic.specs.Operations.{plus_zero}
use Rattle.arithmetic.specs.Basic.{mul_add2_sel}

-- the source's chain `value.mul_add2_sel(z, c)`: the value times z, plus the next coefficient; with none left, the value
unfoldable pub evaluate : Float → List Float → Float → Float
evaluate value [] z = value
evaluate value (c ∷ cs) z = evaluate (mul_add2_sel value z c) cs z

-- the source's nested calls `z.mul_add2_sel(value, c)`, the innermost first: z times the value, plus the next coefficient
unfoldable pub nested_from : Float → Float → List Float → Float
nested_from z value [] = value
nested_from z value (c ∷ cs) = nested_from z (mul_add2_sel z value c) cs

-- the innermost value is the first coefficient; with none, it is 0
unfoldable pub nested : Float → List Float → Float
unfolding nested_from
nested z [] = plus_zero
nested z (c ∷ cs) = nested_from z c cs

infixl 8 ◌at◌
-- `C[i]` and `&C[a..b]` of an array C of coefficients
abbrev pub ◌at◌ : List Float → ℕ → Float
◌at◌ cs i = get_or cs i nan

abbrev pub part : List Float → ℕ → ℕ → List Float
part cs a b = take (b - a) (drop a cs)
