-- `exp::scale_b` meets its contract: a law of `PowersOfTwo` for each path. Assumes nothing.
use Rattle.std.proofs.Common.{ℕ, sym, ap, ◌∙◌, lit≤}
use denote.Floats.{passes}
use lib.Ieee.{minus}
use Rattle.arithmetic.specs.Operations.{◌⊗◌, half, two}
use Rattle.arithmetic.specs.Exp.{scale_b}
use Rattle.arithmetic.specs.Laws.PowersOfTwo.{times_power, halved, twice}
use Rattle.arithmetic.proofs.exp.scale_b.Goals as goal

pub returns-then-e-eq0 : goal.returns-then-e-eq0
returns-then-e-eq0 c =
    let y = c.args.y in
    times_power (y ⊗ half) c.power.result 1 c.power.ensures
    ∙ halved y (passes _ c.well_formed.0.1)
    ∙ ap (λ (e : ℕ). scale_b y (minus e 1075)) (sym c.if-e-eq0.true)

pub returns-then-e-eq-LAST_EXPONENT : goal.returns-then-e-eq-LAST_EXPONENT
returns-then-e-eq-LAST_EXPONENT c =
    let y = c.args.y in
    times_power (y ⊗ two) c.power-then-e-eq-LAST_EXPONENT.result 2098 c.power-then-e-eq-LAST_EXPONENT.ensures
    ∙ twice y 2098 (passes _ c.well_formed.0.1) (lit≤ tt)
    ∙ ap (λ (e : ℕ). scale_b y (minus e 1075)) (sym c.if-e-eq-LAST_EXPONENT.true)

pub returns : goal.returns
returns c = times_power c.args.y c.power-2.result c.args.e c.power-2.ensures
