-- The search for either curve is, at the distribution, that of the definitions for the distribution, and at the survival that for the survival.
-- Assumes nothing.
use mathlib.Core.Path.{◌≡◌, refl, ap}
use Prim.Native.Nat.{ℕ, zero, suc}
use mathlib.Core.Bool.{Bool, true, false, cond}
use lib.Ieee.{Float, lt}
use Rattle.inverse_gaussian.specs.declared.bracket.Bracket.{Bracket}
use Rattle.inverse_gaussian.specs.Counted.{Option, some, none, Counted, tick, then, some_of}
use Rattle.inverse_gaussian.specs.Loops.{Next, go, stop, step, iterate}
use Rattle.inverse_gaussian.specs.Curves.{inverse_gaussian_cdf, inverse_gaussian_survival}
use Rattle.inverse_gaussian.specs.Bracket.{doubled_from, doubling_loop, doublings, bracket_quantile_from_below, bracket_quantile_from_above}
use Rattle.inverse_gaussian.specs.Quantile.{bracket_at, clamped, iterations}
use Rattle.inverse_gaussian.specs.Survival.{survival_from_below, survival_from_above, survival_bracket_at, survival_iterations, survival_iterations_in}
use Rattle.inverse_gaussian.specs.Internal.Bracketed.{upward_loop, upward, downward, narrowing, bracket_beside, root_in, root_from, stop_some}
use Rattle.inverse_gaussian.specs.Internal.Bracketed.{distribution, survival}

iterate_some : (mu p : Float) (k : ℕ) (n : Next Bracket Bracket)
    → iterate (upward_loop distribution mu p) k (stop_some n) ≡ some_of (iterate (doubling_loop mu p) k n)
unfolding iterate
iterate_some mu p zero (stop b) = refl
iterate_some mu p zero (go b) = refl
iterate_some mu p (suc k) (stop b) = refl
iterate_some mu p (suc k) (go b) = ap tick (iterate_some mu p k (step (doubling_loop mu p) b))

some_cond : {R : Type 0} (t : Bool) (a b : Counted R) → cond t (some_of a) (some_of b) ≡ some_of (cond t a b)
some_cond true a b = refl
some_cond false a b = refl

module _ (mu p : Float) where
  distribution_upward : (x : Float) → upward distribution x mu p ≡ some_of (bracket_quantile_from_below x mu p)
  unfolding upward bracket_quantile_from_below
  distribution_upward x = iterate_some mu p doublings (go (doubled_from x))

  distribution_downward : (x : Float) → downward distribution x mu p ≡ bracket_quantile_from_above x mu p
  unfolding downward bracket_quantile_from_above
  distribution_downward x = refl

  distribution_beside : (x v : Float) → bracket_beside distribution x v mu p ≡ some_of (bracket_at x v mu p)
  unfolding bracket_beside bracket_at
  distribution_beside x v =
      rw (distribution_upward x, distribution_downward x)
      (some_cond (lt v p) (bracket_quantile_from_below x mu p) (bracket_quantile_from_above x mu p))

  distribution_narrowing : (b : Bracket) (x : Float) → narrowing distribution mu p b x ≡ iterations mu p b x
  unfolding narrowing iterations
  distribution_narrowing b x = refl

  pub distribution_root_from : (x : Float) → root_from distribution x mu p
      ≡ some_of (tick (then (bracket_at x (inverse_gaussian_cdf x mu) mu p) (λ b. iterations mu p b (clamped b x))))
  unfolding root_from
  distribution_root_from x = rw (distribution_beside x (inverse_gaussian_cdf x mu), distribution_narrowing)

  survival_beside : (x v : Float) → bracket_beside survival x v mu p ≡ survival_bracket_at x v mu p
  unfolding bracket_beside survival_bracket_at upward downward survival_from_below survival_from_above
  survival_beside x v = refl

  survival_in : (x : Float) (t : Option Bracket) → root_in (λ b. narrowing survival mu p b x) t ≡ survival_iterations_in mu p x t
  unfolding survival_iterations_in narrowing survival_iterations
  survival_in x (some b) = refl
  survival_in x none = refl

  pub survival_root_from : (x : Float)
      → root_from survival x mu p ≡ tick (then (survival_bracket_at x (inverse_gaussian_survival x mu) mu p) (survival_iterations_in mu p x))
  unfolding root_from
  survival_root_from x =
      rw (survival_beside x (inverse_gaussian_survival x mu), survival_in x (survival_bracket_at x (inverse_gaussian_survival x mu) mu p).result)
