-- How a search goes on from one part to the next, whatever is allowed, and that it starts at a point that is finite and above 0. Assumes nothing.
use mathlib.Core.Path.{◌≡◌, sym, ◌∙◌}
use Prim.Native.Nat.{ℕ, suc}
use mathlib.Core.Bool.{Bool, true, false, ◌&&◌}
use lib.Ieee.{Float, lt}
use Rattle.arithmetic.specs.Operations.{plus_zero, one}
use Rattle.arithmetic.specs.Ln.{ln}
use Rattle.arithmetic.specs.Laws.Choices.{by_test, never}
use Rattle.inverse_gaussian.specs.declared.bracket.Bracket.{Bracket}
use Rattle.inverse_gaussian.specs.Counted.{Option, some, none, Counted, Sample, at_once, tick, then, some_of, or_else}
use Rattle.inverse_gaussian.specs.Counted.{Metered, have, spent, limited}
use Rattle.inverse_gaussian.specs.Loops.{Next, stop}
use Rattle.inverse_gaussian.specs.Curves.{finite_positive, inverse_gaussian_pdf, starting_point}
use Rattle.inverse_gaussian.specs.Newton.{initial_x, first, newton_loop, steps, inverse_gaussian_quantile_actuar}
use Rattle.inverse_gaussian.specs.Quantile.{inverse_gaussian_quantile_bracketed, solvable, filtered, inverse_gaussian_quantile}
use Rattle.inverse_gaussian.specs.Internal.Searches.{step_at}
use Rattle.inverse_gaussian.specs.Internal.Bracketed.{Rules, bracket_beside, narrowing, root_in, root_from}
use Rattle.inverse_gaussian.specs.Laws.Counted.{iterate_stop, limited_now, limited_none, limited_tick, then_spent, then_have, none_of, value_of}
use Rattle.inverse_gaussian.proofs.Turns.{Told}

-- ---- the starting point

pub start_finite_positive : (guess mu x : Float) → finite_positive mu ≡ true → x ≡ starting_point guess mu → finite_positive x ≡ true
unfolding starting_point
start_finite_positive guess mu x h e = rw e (by_test (λ y. finite_positive y ≡ true) (finite_positive guess) (λ g. g) (λ g. h))

pub solvable_finite_positive : (p mu : Float) → solvable p mu ≡ true → finite_positive mu ≡ true
solvable_finite_positive p mu e = second (lt p one) (finite_positive mu) (second (lt plus_zero p) _ e)
  where
    second : (a b : Bool) → (a && b) ≡ true → b ≡ true
    second true b e = e
    second false b e = never (cc)

-- ---- one evaluation, and then the rest of a search

no_value : {R Q : Type 0} (n : ℕ) (c : Counted R) (w : Q) → spent ≡ limited n (tick (at_once w)) → spent ≡ limited n (tick c)
no_value n c w e = rw (none_of w e) (sym (limited_none c))

after_value : {R : Type 0} {n m : ℕ} (c : Counted R) {q : Metered R} → n ≡ suc m → q ≡ limited m c → q ≡ limited n (tick c)
after_value {m = m} c f h = rw f (h ∙ sym (limited_tick m c))

-- ---- `inverse_gaussian_quantile_actuar`: the first step, and the steps after it

module _ (p mu : Float) where
  pub no_step : (n : ℕ) (w : Option Float) → spent ≡ limited n (tick (at_once w)) → spent ≡ limited n (inverse_gaussian_quantile_actuar p mu)
  unfolding inverse_gaussian_quantile_actuar
  no_step n w e = no_value n _ w e

  pub from_step : (n : ℕ) {lp x : Float} {m : ℕ} {t : Option Float} {s : Next (Float × Float) (Option Float)} {q : Metered (Option Float)}
      → lp ≡ ln p → x ≡ initial_x p lp mu → have t m ≡ limited n (tick (at_once (step_at x p lp mu))) → s ≡ first mu x t
      → q ≡ limited m (steps p lp mu s) → q ≡ limited n (inverse_gaussian_quantile_actuar p mu)
  unfolding inverse_gaussian_quantile_actuar
  from_step n {lp} {s = s} l e o g h = let v = value_of o in rw (← l, ← e, v.0, ← g) (after_value (steps p lp mu s) v.1 h)

pub no_more_steps : (p lp mu : Float) (m : ℕ) (t : Option Float) → have t m ≡ limited m (steps p lp mu (stop t))
unfolding steps
no_more_steps p lp mu m t = rw (iterate_stop (newton_loop p lp mu) 99 t) (sym (limited_now m t))

-- ---- a search in a bracket: one evaluation, a bracket, and the iterations in it; no root where there is no bracket

module _ (r : Rules) (x mu p : Float) where
  pub no_start : (n : ℕ) (w : Sample) → spent ≡ limited n (tick (at_once w)) → spent ≡ limited n (root_from r x mu p)
  unfolding root_from
  no_start n w e = no_value n _ w e

  pub from_start : {v d : Float} {n m : ℕ} {q : Metered (Option Float)} → Told (r.curve x mu) (inverse_gaussian_pdf x mu) n v d m
      → q ≡ limited m (then (bracket_beside r x v mu p) (root_in (λ b. narrowing r mu p b (r.begin b x)))) → q ≡ limited n (root_from r x mu p)
  unfolding root_from
  from_start {v} o h = rw o.value (after_value (then (bracket_beside r x v mu p) (root_in (λ b. narrowing r mu p b (r.begin b x)))) o.one_fewer h)

module _ (n : ℕ) (c : Counted (Option Bracket)) (f : Bracket → Counted Float) where
  pub no_bracket : spent ≡ limited n c → spent ≡ limited n (then c (root_in f))
  no_bracket e = then_spent n c (root_in f) e

  pub nowhere : {m : ℕ} → have none m ≡ limited n c → have none m ≡ limited n (then c (root_in f))
  nowhere {m} e = then_have n m c (root_in f) none _ e (sym (limited_now m none))

  pub in_bracket : {m : ℕ} {b : Bracket} {q : Metered (Option Float)}
      → have (some b) m ≡ limited n c → q ≡ limited m (some_of (f b)) → q ≡ limited n (then c (root_in f))
  in_bracket {m} {b} {q} e h = then_have n m c (root_in f) (some b) q e h

-- ---- `inverse_gaussian_quantile`

pub unsolvable : (p mu : Float) (n : ℕ) → solvable p mu ≡ false → have none n ≡ limited n (inverse_gaussian_quantile p mu)
unfolding inverse_gaussian_quantile
unsolvable p mu n e = rw e (sym (limited_now n none))

-- t is what the Newton steps gave, and the filter leaves f of it
module _ (p mu : Float) (n : ℕ) (s : solvable p mu ≡ true) where
  abbrev or_bracketed : Option Float → Counted (Option Float)
  or_bracketed f = some_of (or_else f (inverse_gaussian_quantile_bracketed p mu))

  pub newton_spent : spent ≡ limited n (inverse_gaussian_quantile_actuar p mu) → spent ≡ limited n (inverse_gaussian_quantile p mu)
  unfolding inverse_gaussian_quantile
  newton_spent e = rw s (then_spent n (inverse_gaussian_quantile_actuar p mu) (λ t. or_bracketed (filtered t)) e)

  after_newton : {t f : Option Float} {m : ℕ} {q : Metered (Option Float)}
      → have t m ≡ limited n (inverse_gaussian_quantile_actuar p mu) → f ≡ filtered t → q ≡ limited m (or_bracketed f)
      → q ≡ limited n (inverse_gaussian_quantile p mu)
  unfolding inverse_gaussian_quantile
  after_newton {t} {f} {m} {q} e g h =
      rw s (then_have n m (inverse_gaussian_quantile_actuar p mu) (λ t. or_bracketed (filtered t)) t q e (rw (sym g) h))

  pub newton_root : {t : Option Float} {x : Float} {m : ℕ}
      → have t m ≡ limited n (inverse_gaussian_quantile_actuar p mu) → some x ≡ filtered t → have (some x) m ≡ limited n (inverse_gaussian_quantile p mu)
  unfolding or_else
  newton_root {t} {x} {m} e g = after_newton e g (sym (limited_now m (some x)))

  pub newton_none : {t : Option Float} {m : ℕ} {q : Metered (Option Float)}
      → have t m ≡ limited n (inverse_gaussian_quantile_actuar p mu) → none ≡ filtered t
      → q ≡ limited m (some_of (inverse_gaussian_quantile_bracketed p mu)) → q ≡ limited n (inverse_gaussian_quantile p mu)
  unfolding or_else
  newton_none e g h = after_newton e g h
