-- `newton::Steps::after_first` meets its contract. The invariant: what the definition gives for what was allowed is what it gives
-- from here for what is left, in the steps that are left. The measure is the steps that are left. Assumes nothing.
use mathlib.Core.Path.{refl}
use Prim.Native.Nat.{◌+◌, ◌-◌}
use native.Mathlib.Omega.{arith}
use Rattle.inverse_gaussian.specs.Loops.{go}
use Rattle.inverse_gaussian.specs.Newton.{steps}
use Rattle.inverse_gaussian.specs.Laws.Metered.{passed_on}
use Rattle.inverse_gaussian.proofs.Turns.{left_no_value, left_found, left_last, stepped}
use Rattle.inverse_gaussian.proofs.newton.Steps.after_first.Goals as goal

pub loop-init : goal.loop-init
unfolding steps
loop-init c = (record { same = refl }, omega arith)

pub returns-in_err-step-clause-metered : goal.returns-in_err-step-clause-metered
returns-in_err-step-clause-metered c = passed_on _ _ _ c.from_residual.ensures.0
    (left_no_value _ c.loop.invariant.0 (omega arith) c.in_err-step.ensures.metered)

pub returns-in-Break-clause-metered : goal.returns-in-Break-clause-metered
returns-in-Break-clause-metered c = left_found
    (stepped _ _ _ (100 - (c.loop.counter + 1)) c.loop.invariant.0 (omega arith) c.in_ok-step.ensures.metered c.in-Break.ensures)

pub loop-preserved : goal.loop-preserved
loop-preserved c =
    (stepped _ _ _ _ c.loop.invariant.0 (omega arith) c.in_ok-step.ensures.metered c.in-Continue.ensures, omega arith)

pub returns-clause-metered : goal.returns-clause-metered
returns-clause-metered c = left_last _ _ _ (go (c.loop.x, c.loop.direction)) c.loop.invariant.0 (omega arith)
