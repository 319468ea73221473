-- That one magnitude is at most 2 ^ 1022 times another, with both as exact fractions. Definitions only.
use Rattle.std.specs.Prelude.{◌*◌, ◌^◌, ◌≤◌, Float}
use Rattle.std.specs.Float.Ieee.Positive.{num, den}

-- x is at most 2 ^ 1022 times y, so the quotient y / x is not below the smallest normal value
abbrev pub NotOver : Float → Float → Type 0
NotOver x y = num x * den y ≤ num y * den x * 2 ^ 1022
