-- The whole part of a value, by which the proofs of `trunc` and `exp` go. Definitions only.
use Rattle.std.specs.Prelude.{ℕ, ◌*◌, ◌/◌, ◌^◌, min, Float}
use Rattle.std.specs.Float.{nan, inf, fin}
use Rattle.std.specs.Float.Ieee.{up, down}

-- the whole part of |x|, and 2 ^ 52 from there on, where every value is whole
abbrev pub whole_part : Float → ℕ
whole_part nan = 0
whole_part (inf s) = 2 ^ 52
whole_part (fin s m e) = min (m * up e / down e) (2 ^ 52)
