-- The number of 128 bits that a pair of two halves holds, and what `pair::jam` makes of it. Definitions only.
use Rattle.std.specs.Prelude.{ℕ, ◌+◌, ◌*◌, ◌/◌, ◌%◌, ◌^◌, min}
use Rattle.arithmetic.specs.declared.pair.Pair.{Pair}

-- the number that a pair holds
abbrev pub val : Pair → ℕ
val p = p.hi * 2 ^ 64 + p.lo

-- n / 2 ^ d with a sticky last digit: cut to a whole number, whose last digit is 1 too where anything but 0 was cut
abbrev pub jammed : ℕ → ℕ → ℕ
jammed n d = n / 2 ^ (d + 1) * 2 + min 1 (n % 2 ^ (d + 1))
