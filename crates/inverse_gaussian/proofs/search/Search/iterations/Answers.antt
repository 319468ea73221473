-- `search::Search::iterations` meets its contract. The invariant: what the definition gives for what was allowed is what it gives
-- from here for what is left, in the iterations that are left. The measure is the iterations that are left. Assumes nothing.
use mathlib.Core.Path.{refl, sym}
use Prim.Native.Nat.{◌+◌, ◌-◌}
use native.Mathlib.Omega.{arith}
use Rattle.inverse_gaussian.specs.Internal.Bracketed.{narrowing}
use Rattle.inverse_gaussian.specs.Laws.Counted.{left_out}
use Rattle.inverse_gaussian.specs.Laws.Metered.{passed_on}
use Rattle.inverse_gaussian.proofs.Turns.{told, iterated, left_found, left_no_value}
use Rattle.inverse_gaussian.proofs.search.Search.iterations.Goals as goal

pub loop-init : goal.loop-init
unfolding narrowing
loop-init g c = (record { same = refl }, omega arith)

pub returns-in_err-evaluation-clause-metered : goal.returns-in_err-evaluation-clause-metered
returns-in_err-evaluation-clause-metered g c =
    passed_on _ _ _ c.from_residual.ensures.0 (left_no_value _ c.loop.invariant.0 (omega arith) c.in_err-evaluation.ensures.metered)

pub returns-in-Break-clause-metered : goal.returns-in-Break-clause-metered
returns-in-Break-clause-metered g c = left_found
    (iterated g.C.Curve.rules _ _ (64 - (c.loop.counter + 1)) c.loop.invariant.0 (omega arith) (told c.in_ok-evaluation.ensures.metered)
    (rw (c.value.ensures, c.density-pdf.ensures) at c.in-Break.ensures))

pub loop-preserved : goal.loop-preserved
loop-preserved g c = (
  iterated g.C.Curve.rules _ _ _ c.loop.invariant.0 (omega arith) (told c.in_ok-evaluation.ensures.metered)
      (rw (c.value.ensures, c.density-pdf.ensures) at c.in-Continue.ensures),
  omega arith,
)

pub returns-clause-metered : goal.returns-clause-metered
returns-clause-metered g c = rw c.bracket_midpoint.ensures (sym (left_out c.loop.invariant.0 (omega arith)))
