-- `ln::ln` meets its contract: a law of `LnPaths` for each path. Assumes nothing.
use Rattle.std.proofs.Common.{arith, ltb-true, leb-true}
use denote.Floats.{passes}
use Rattle.arithmetic.specs.Laws.Logarithm.{positive_bits}
use Rattle.arithmetic.proofs.ExpFast.{both_true}
use Rattle.arithmetic.proofs.LnPaths.{positive_no_nan, normal_parts, subnormal_parts, ln_near_one, ln_parts, ln_infinity, ln_zero, ln_below}
use Rattle.arithmetic.proofs.ln.ln.Goals as goal

pub returns-then-b : goal.returns-then-b
returns-then-b c =
    let held = passes _ c.well_formed.0.1 in
    let (from_least_lem, below-twice) = both_true _ _ c.if-b.true in
    ln_near_one c.args.x held (leb-true _ _ from_least_lem) (ltb-true _ _ below-twice) _ (normal_parts c.args.x held c.if-x.true c.if-x-2.true) c.series.ensures

pub overflow_add-b : goal.overflow_add-b
overflow_add-b c =
    let held = passes _ c.well_formed.0.1 in
    let parts = normal_parts c.args.x held c.if-x.true c.if-x-2.true in
    omega (arith, positive_bits c.args.x parts.0 held)

pub returns-then-x-2 : goal.returns-then-x-2
returns-then-x-2 c =
    let parts = normal_parts c.args.x (passes _ c.well_formed.0.1) c.if-x.true c.if-x-2.true in
    ln_parts _ _ _ parts.0 parts.1 c.of_pattern.ensures

pub returns-then-x : goal.returns-then-x
returns-then-x c = ln_infinity c.args.x c.if-x.true c.if-x-2.false

pub float_to_bits-x : goal.float_to_bits-x
float_to_bits-x c =
    let parts = subnormal_parts c.args.x (passes _ c.well_formed.0.1) c.if-x.false c.if-x-3.true in
    positive_no_nan _ parts.1

pub of_pattern-requires-then-x-3 : goal.of_pattern-requires-then-x-3
of_pattern-requires-then-x-3 c =
    let parts = subnormal_parts c.args.x (passes _ c.well_formed.0.1) c.if-x.false c.if-x-3.true in
    parts.3

pub returns-then-x-3 : goal.returns-then-x-3
returns-then-x-3 c =
    let parts = subnormal_parts c.args.x (passes _ c.well_formed.0.1) c.if-x.false c.if-x-3.true in
    ln_parts _ _ _ parts.0 parts.2 c.of_pattern-then-x-3.ensures

pub returns-then-x-4 : goal.returns-then-x-4
returns-then-x-4 c = ln_zero c.args.x c.if-x-4.true

pub returns : goal.returns
returns c = ln_below c.args.x c.if-x-3.false c.if-x-4.false
