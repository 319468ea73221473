-- A result with the count of its evaluations (REQUIREMENTS 10.4), and what a caller with an allowance gets of it (10.3). Definitions only.
use Rattle.std.specs.Prelude.{ℕ, suc, ◌+◌, ◌-◌, cond, leb, Float}

-- the source's `Option`
pub data Option (A : Type 0) : Type 0 where
  some : A → Option A
  none : Option A

-- what an evaluation of a curve at a point gives: the curve's value, and the density there
pub data Sample : Type 0 where
  sample : Float → Float → Sample

-- a result with the count of the evaluations on the way to it
pub record Counted (R : Type 0) : Type 0 where
  pub result : R
  pub count : ℕ

-- a result without an evaluation
abbrev pub at_once : {R : Type 0} → R → Counted R
at_once r = record { result = r; count = 0 }

-- the same result after one evaluation more
abbrev pub tick : {R : Type 0} → Counted R → Counted R
tick c = record { result = c.result; count = suc c.count }

-- a second search from the first one's result: the counts add up
abbrev pub then : {R Q : Type 0} → Counted R → (R → Counted Q) → Counted Q
then c f = record { result = (f c.result).result; count = c.count + (f c.result).count }

-- the result if there is one, and else the search c
unfoldable pub or_else : {R : Type 0} → Option R → Counted R → Counted R
or_else (some r) c = at_once r
or_else none c = c

-- a search that always has a result, as one that might have none
abbrev pub some_of : {R : Type 0} → Counted R → Counted (Option R)
some_of c = record { result = some c.result; count = c.count }

-- what a caller with an allowance gets: the result with how many evaluations are left, or nothing since the allowance was spent on the way
pub data Metered (R : Type 0) : Type 0 where
  have : R → ℕ → Metered R
  spent : Metered R

-- f of the result, if there is one
abbrev pub mapped : {R Q : Type 0} → (R → Q) → Metered R → Metered Q
mapped f (have r n) = have (f r) n
mapped f spent = spent

-- the same as `some_of`, of what a caller gets
abbrev pub all_some : {R : Type 0} → Metered R → Metered (Option R)
all_some m = mapped (λ r. some r) m

-- with n allowed: the result with n - count left if the count is at most n, and else spent
unfoldable pub limited : {R : Type 0} → ℕ → Counted R → Metered R
limited n c = cond (leb c.count n) (have c.result (n - c.count)) spent
