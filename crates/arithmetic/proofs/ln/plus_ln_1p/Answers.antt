-- `ln::plus_ln_1p` meets its contract: of a u near 0 by `plus_ln1p`. Assumes nothing.
use Rattle.std.proofs.Common.{sym}
use denote.Floats.{passes}
use Rattle.arithmetic.proofs.LnBetween.{near, plus_ln1p}
use Rattle.arithmetic.proofs.ExpFast.{both_true}
use Rattle.arithmetic.proofs.ln.plus_ln_1p.Goals as goal

pub returns-then-least-most : goal.returns-then-least-most
returns-then-least-most c = let u = c.args.u in
    let (below-limit, above-limit) = both_true _ _ (sym c.if-is_within.ensures) in
    let (equal, below_zero) = both_true _ _ c.if-least-most.true in
    plus_ln1p u (passes _ c.well_formed.1.0.1) (near u below-limit above-limit) c.args.y equal below_zero
