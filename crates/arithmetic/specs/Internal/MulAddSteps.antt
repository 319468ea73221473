-- What the steps of `mul_add` promise of their results, beside what the types of these have as facts.
use Rattle.std.specs.Prelude.{◌≡◌, ℕ, ◌+◌, ◌-◌, ◌*◌, ◌/◌, ◌^◌, ◌<◌, ◌≤◌, Bool, ℤ, Float}
use Rattle.std.specs.Float.{binary64}
use Rattle.std.specs.Float.Ieee.{size, sum}
use Rattle.std.specs.Float.Ieee.Exact.{HasValue}
use Rattle.std.specs.Float.Ieee.Nearest.{closest}
use Rattle.arithmetic.specs.declared.mul_add.Parts.{Parts}
use Rattle.arithmetic.specs.declared.mul_add.Term.{Term}
use Rattle.arithmetic.specs.declared.mul_add.Terms.{Terms}
use Rattle.arithmetic.specs.declared.mul_add.Guarded.{Guarded}
use Rattle.arithmetic.specs.Internal.Pair.{val}
use Rattle.arithmetic.specs.Internal.Exponent.{above}
use Rattle.arithmetic.specs.Internal.MulAdd.{TermExponent}

-- r has the sign and the magnitude of x
abbrev pub Decoded : Float → Parts → Type 0
Decoded x r = HasValue x r.negative (r.m * 2 ^ above 1074 r.j.value) (2 ^ 1074)

-- r serves as the exponent of the product of u and v
pub record ProductExponent (u v : Parts) (r : ℤ) : Type 0 where
  pub value : u.m * v.m * 2 ^ above 2148 r ≡ u.m * v.m * 2 ^ (above 1074 u.j.value + above 1074 v.j.value)
  pub exponent : TermExponent r
  pub lead : 1074 < above 2148 r → 2 ^ 52 ≤ u.m * v.m

-- r is the product of u and v
pub record IsProduct (u v : Parts) (r : Term) : Type 0 where
  pub whole : val r.v ≡ u.m * v.m
  pub scale : ProductExponent u v r.e.value

-- the terms r have the rounded sum of the product p and the addend w, whatever the signs
abbrev pub Aligned : Term → Parts → Terms → Type 0
Aligned p w r = (s t : Bool)
    → sum binary64 s (val p.v * 2 ^ above 2148 p.e.value) t (w.m * 2 ^ above 2148 w.j.value) (2 ^ 2148)
    ≡ sum binary64 s (val r.a * 2 ^ above 2148 r.e.value) t (val r.b * 2 ^ above 2148 r.e.value) (2 ^ 2148)

-- r.m / 4, whose last two digits are the guard and the sticky digit, rounds as n / 2 ^ 1074 does where its last above 1074 r.k.value digits are
-- dropped
pub record IsGuarded (n : ℕ) (r : Guarded) : Type 0 where
  pub count : above 1074 r.k.value ≡ size (n / 2 ^ 1074) - 53
  pub same : closest n (2 ^ (1074 + above 1074 r.k.value)) ≡ closest r.m 4
