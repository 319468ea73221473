-- What the steps of `sqrt` ask and promise: the nearest whole root of w * 2 ^ 52, for the leading digits w of the number under the root.
use Rattle.std.specs.Prelude.{◌≡◌, ℕ, ◌+◌, ◌*◌, ◌%◌, ◌^◌, ◌<◌, ◌≤◌, cond, nat_lt}
use Rattle.arithmetic.specs.Sqrt.{closest_root}

-- w has 53 or 54 binary digits, and not 54 ones
abbrev pub Radicand : ℕ → Type 0
Radicand w = (2 ^ 52 ≤ w) × (w + 1 < 2 ^ 54)

-- the leading digits of the normal value with pattern b, doubled where the lowest digit of its exponent's field is 0
abbrev pub leading : ℕ → ℕ
leading b = let d = b % 9007199254740992 in cond (nat_lt d 4503599627370496) (2 * d + 9007199254740992) d

-- q is the whole number nearest to √(w * 2 ^ 52), and has 53 binary digits
abbrev pub Closest : ℕ → ℕ → Type 0
Closest w q = (q ≡ closest_root (w * 2 ^ 52) 0) × (2 ^ 52 ≤ q) × (q < 2 ^ 53)
