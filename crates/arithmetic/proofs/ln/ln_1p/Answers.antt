-- `ln::ln_1p` meets its contract: a law of `LnPaths` for each path. Assumes nothing.
use Rattle.std.proofs.Common.{◌∙◌, arith}
use lib.Ieee.{binary64, of_bits, neg}
use lib.Ieee.Fits.{add-fits}
use Rattle.arithmetic.specs.Operations.{◌⊕◌, one}
use Rattle.arithmetic.specs.Laws.Logarithm.{positive_bits}
use Rattle.arithmetic.proofs.LnPaths.{NormalParts, positive_no_nan, ln1p_low, ln1p_high, ln1p_over, ln1p_under, sum_parts}
use Rattle.arithmetic.proofs.ln.ln_1p.Goals as goal
use Rattle.arithmetic.proofs.ln.ln_1p.Goals.{else-u-via-then-u+else-u-2, else-u-via-else-u}

pub returns-then-u-3 : goal.returns-then-u-3
unfolding of_bits neg
returns-then-u-3 c = c.series.ensures ∙ ln1p_low c.args.u c.if-u.true c.if-u-2.true c.if-u-3.true

pub float_to_bits-v : goal.float_to_bits-v
float_to_bits-v c =
    let parts : NormalParts (one ⊕ c.args.u) = sum_parts c.args.u c.if-u-2.true c.if-u-3.false in
    positive_no_nan _ parts.0

pub overflow_add-v : goal.overflow_add-v
overflow_add-v c =
    let parts : NormalParts (one ⊕ c.args.u) = sum_parts c.args.u c.if-u-2.true c.if-u-3.false in
    omega (arith, positive_bits _ parts.0 (add-fits binary64 _ _))

pub returns-then-u-2 : goal.returns-then-u-2
unfolding of_bits neg
returns-then-u-2 c =
    let parts : NormalParts (one ⊕ c.args.u) = sum_parts c.args.u c.if-u-2.true c.if-u-3.false in
    ln1p_high c.args.u _ _ _ _ c.if-u.true c.if-u-2.true c.if-u-3.false
    parts.1 c.decompose_bits-p.ensures c.series-then-u-2.ensures

pub returns : goal.returns
unfolding of_bits neg
returns c = elim c.else-u.branch [ else-u-via-then-u+else-u-2 w ↦ ln1p_over c.args.u w.if-u.true w.if-u-2.false | else-u-via-else-u w ↦ ln1p_under c.args.u w.if-u.false ]
