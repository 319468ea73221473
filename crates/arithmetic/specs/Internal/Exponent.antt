-- Exponents of `mul_add`. Definitions only.
use Rattle.std.specs.Prelude.{ℕ, suc, ◌+◌, ◌-◌, ℤ, pos, negsuc, neg_ℤ, ◌≤ℤ◌}

abbrev pub limit : ℕ
limit = 4000

-- in range: each exponent that is met lies between -4000 and 4000
pub record InRange (e : ℤ) : Type 0 where
  pub least : neg_ℤ (pos limit) ≤ℤ e
  pub most : e ≤ℤ pos limit

-- in range, and from -l to h
pub record Exponent (l h : ℕ) (e : ℤ) : Type 0 where
  pub in_range : InRange e
  pub least : neg_ℤ (pos l) ≤ℤ e
  pub most : e ≤ℤ pos h

-- e counted from -l on: e + l for an e from -l on, and 0 below
abbrev pub above : ℕ → ℤ → ℕ
above l (pos k) = k + l
above l (negsuc k) = l - suc k
