-- One turn of a search, for every loop: what follows from the contracts of its evaluation and of what is made of the value. Assumes nothing.
use mathlib.Core.Path.{◌≡◌, sym, ap, ◌∙◌}
use Prim.Native.Nat.{ℕ, zero, suc, ◌-◌, ◌<◌}
use native.Mathlib.Omega.{arith}
use lib.Ieee.{Float}
use Rattle.inverse_gaussian.specs.Counted.{Option, sample, at_once, tick, Metered, have, spent, limited}
use Rattle.inverse_gaussian.specs.Loops.{Next, go, stop, Loop}
use Rattle.inverse_gaussian.specs.declared.bracket.Bracket.{Bracket}
use Rattle.inverse_gaussian.specs.Curves.{inverse_gaussian_pdf}
use Rattle.inverse_gaussian.specs.Newton.{newton_loop, last, later}
use Rattle.inverse_gaussian.specs.Internal.Searches.{step_at}
use Rattle.inverse_gaussian.specs.Internal.Bracketed.{Rules, narrowing_loop}
use Rattle.inverse_gaussian.specs.Laws.Counted.{Carried, carried_on, carried_stop, value_of}
use Rattle.inverse_gaussian.specs.Laws.Counted.{Left, left_on, left_none, left_stop, left_out, none_of}

-- What an evaluation tells a caller who had n allowed: of the curve's value w and the density q at its point
-- it gives v and d, and m are left.
pub record Told (w q : Float) (n : ℕ) (v d : Float) (m : ℕ) : Type 0 where
  pub value : w ≡ v
  pub density : q ≡ d
  pub one_fewer : n ≡ suc m

pub told : {w q v d : Float} {n m : ℕ} → have (sample v d) m ≡ limited n (tick (at_once (sample w q))) → Told w q n v d m
told e = let o = value_of e in record { value = let h = o.0 in cc; density = let h = o.0 in cc; one_fewer = o.1 }

-- ---- a loop with no limit of its own: x is what the code makes of the value

module _ {S R : Type 0} {l : Loop S R} {k : ℕ} {a : Metered R} {n : ℕ} where
  pub turned : {s : S} {m : ℕ} {v d q : Float} {x : Next S R}
      → Carried l k a n (go s) → Told (l.ask (l.point s)) q n v d m → x ≡ l.advance s v → Carried l k a m x
  turned i o h = carried_on i o.one_fewer (ap (l.advance _) o.value ∙ sym h)

  pub found : {r : R} → Carried l k a n (stop r) → have r n ≡ a
  found i = sym (carried_stop i)

-- ---- a loop that counts its turns

module _ {S R : Type 0} {l : Loop S R} {k : ℕ} {a : Metered R} {n : ℕ} where
  pub left_found : {r : R} → Left l k a n (stop r) → have r n ≡ a
  left_found i = sym (left_stop i)

  pub left_no_value : {Q : Type 0} {s : S} (w : Q) → Left l k a n (go s) → 0 < k → spent ≡ limited n (tick (at_once w)) → spent ≡ a
  left_no_value w i h e = let f : k ≡ suc (k - 1) = omega arith in sym (left_none (k - 1) i f (none_of w e))

-- an iteration in a bracket
module _ (r : Rules) (mu p : Float) where
  pub iterated : {x v d : Float} {b : Bracket} {k n m : ℕ} (j : ℕ) {a : Metered Float} {y : Next (Bracket × Float) Float}
      → Left (narrowing_loop r mu p) k a n (go (b, x)) → k ≡ suc j → Told (r.curve x mu) (inverse_gaussian_pdf x mu) n v d m
      → y ≡ r.iteration d p (b, x) v → Left (narrowing_loop r mu p) j a m y
  iterated {x} {b = b} j i f o h = left_on i f o.one_fewer (rw (o.value, o.density) (sym h))

-- the Newton steps after the first
module _ (p lp mu : Float) {k n : ℕ} {a : Metered (Option Float)} where
  pub stepped : {x direction : Float} {t : Option Float} {m : ℕ} (j : ℕ) {y : Next (Float × Float) (Option Float)}
      → Left (newton_loop p lp mu) k a n (go (x, direction)) → k ≡ suc j → have t m ≡ limited n (tick (at_once (step_at x p lp mu)))
      → y ≡ later mu x direction t → Left (newton_loop p lp mu) j a m y
  stepped {x} {direction} j i f e h = let o = value_of e in left_on i f o.1 (ap (later mu x direction) o.0 ∙ sym h)

  -- no step is left
  pub left_last : (x : Next (Float × Float) (Option Float)) → Left (newton_loop p lp mu) k a n x → k ≡ zero → have (last mu x) n ≡ a
  left_last (go s) i e = sym (left_out i e)
  left_last (stop t) i e = sym (left_stop i)
