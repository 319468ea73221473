-- `polynomial::evaluate` meets its contract. Invariant: the coefficients that are left take the value to the result. Assumes nothing.
use Rattle.std.proofs.Common.{◌∙◌, sym, List, Float, arith}
use Rattle.std.specs.Float.{nan}
use Rattle.std.proofs.lemmas.List.{at_drop_more, at_drop_all}
use Rattle.special_function.specs.Polynomial.{evaluate}
use Rattle.special_function.proofs.polynomial.evaluate.Goals as goal

pub loop-c-preserved : goal.loop-c-preserved
unfolding evaluate
loop-c-preserved c =
    let left = at_drop_more (λ (cs : List Float). evaluate c.loop-c.value cs c.args.z) c.args.coefficients.now c.loop-c.c-index nan c.loop-c-test.true in
    rw c.mul_add2_sel-value.ensures (sym left ∙ c.loop-c.invariant)

pub returns : goal.returns
unfolding evaluate
returns c =
    sym (at_drop_all (λ (cs : List Float). evaluate c.loop-c.value cs c.args.z) c.args.coefficients.now c.loop-c.c-index (omega arith)) ∙ c.loop-c.invariant
