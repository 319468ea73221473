-- What follows from the price of a quote, as one choice: tests 5 and 6 in their order, then what follows from the time value; and the refusals of these
-- two tests. Assumes nothing.
use Rattle.std.specs.Prelude.{◌≡◌, refl, Bool, true, false, cond, ℕ, ◌≤◌, Float}
use Rattle.std.proofs.Common.{arith}
use Rattle.std.specs.Float.Ieee.{le, eq}
use Rattle.arithmetic.specs.Operations.{plus_zero, infinity}
use Rattle.arithmetic.specs.Basic.{max}
use Rattle.arithmetic.specs.Laws.Choices.{never}
use Rattle.inverse_gaussian.specs.Counted.{some, none, Counted, at_once, or_else}
use Rattle.explicit_black.specs.Quote.{Outcome, total, refused, normalised_time_value, bound_tests, from_time_value, from_price}

pub from_price_is : (p d b r x t : Float) → from_price p d b r x t ≡ cond (eq t plus_zero) (at_once (cond (eq p (max d plus_zero)) (total plus_zero) (refused 5)))
    (cond (le b p) (at_once (cond (eq p b) (total infinity) (refused 6)))
    (from_time_value x (normalised_time_value p d r)))
unfolding from_price or_else
from_price_is p d b r x t = go (eq t plus_zero) (le b p) _ _ _
  where
    go : (u v : Bool) (i j : Outcome) (c : Counted Outcome) → or_else (cond u (some i) (cond v (some j) none)) c ≡ cond u (at_once i) (cond v (at_once j) c)
    go true v i j c = refl
    go false true i j c = refl
    go false false i j c = refl

-- a refusal of tests 5 and 6 is one of them
pub bound_tests_refused : (p d b t : Float) (m : ℕ) → some (refused m) ≡ bound_tests p d b t → (5 ≤ m) × (m ≤ 6)
unfolding bound_tests
bound_tests_refused p d b t m h = go (eq t plus_zero) (le b p) (eq p (max d plus_zero)) (eq p b) h
  where
    go : (u v x y : Bool)
        → some (refused m) ≡ cond u (some (cond x (total plus_zero) (refused 5))) (cond v (some (cond y (total infinity) (refused 6))) none)
        → (5 ≤ m) × (m ≤ 6)
    go true v true y e = never (cc)
    go true v false y e = let i : m ≡ 5 = cc in (omega arith, omega arith)
    go false true x true e = never (cc)
    go false true x false e = let i : m ≡ 6 = cc in (omega arith, omega arith)
    go false false x y e = never (cc)
