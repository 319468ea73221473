-- The bytes that a word or a double is read from. Definitions only.
use Rattle.std.specs.Prelude.{ℕ, cond, List, take, drop, Option, Some, None}
use Rattle.xdr_sheet.specs.Xdr.{there}

-- the n bytes from `at` on, if they are all there
abbrev pub bytes_at : List ℕ → ℕ → ℕ → Option (List ℕ)
bytes_at s at n = cond (there s at n) (Some (take n (drop at s))) None
