-- For the functions that search: what their results say in the types of the definitions. No entry's contract cites these. Definitions only.
use Rattle.std.specs.Prelude.{ℕ, Float}
use Rattle.std.specs.declared.option.Option.{Option as Maybe}
use Rattle.std.specs.declared.option.Option.TheVariants.{None, Some}
use Rattle.std.specs.declared.result.Result.{Result}
use Rattle.std.specs.declared.result.Result.TheVariants.{Ok, Err}
use Rattle.std.specs.declared.ops.ControlFlow.{ControlFlow}
use Rattle.std.specs.declared.ops.ControlFlow.TheVariants.{Continue, Break}
use Rattle.arithmetic.specs.Operations.{◌⊗◌, ◌⊘◌}
use Rattle.special_function.specs.NormalDistribution.{norm_pdf}
use Rattle.special_function.specs.Internal.SharedExponential.{norm_pdf_of_square}
use Rattle.inverse_gaussian.specs.declared.curves.Evaluation.{Evaluation}
use Rattle.inverse_gaussian.specs.declared.curves.SurvivalEvaluation.{SurvivalEvaluation}
use Rattle.inverse_gaussian.specs.declared.newton.Newton.{Newton}
use Rattle.inverse_gaussian.specs.declared.newton.Newton.TheVariants.{Move, Refused}
use Rattle.inverse_gaussian.specs.Counted.{Option, some, none, Sample, sample, Metered, have, spent}
use Rattle.inverse_gaussian.specs.Loops.{Next, go, stop}
use Rattle.inverse_gaussian.specs.Newton.{inverse_gaussian_cdf_standardized, inverse_gaussian_nrstep_standardized}

-- what a caller gets of a search: its result, which stands for `view` of it, with the n evaluations that are left afterwards; or nothing
abbrev pub metered : {T E R : Type 0} → (T → R) → Result T E → ℕ → Metered R
metered view (Ok r) n = have (view r) n
metered view (Err e) n = spent

-- a root or a bracket, or none
abbrev pub view_option : {T : Type 0} → Maybe T → Option T
view_option (Some x) = some x
view_option None = none

-- a Newton step's move, or none
abbrev pub view_newton : Newton → Option Float
view_newton (Move dx) = some dx
view_newton Refused = none

-- what an iteration ends with, where what it stops with stands for `view` of that
abbrev pub view_flow : {B C R : Type 0} → (B → R) → ControlFlow B C → Next C R
view_flow view (Break b) = stop (view b)
view_flow view (Continue c) = go c

-- the density at x, from √x, a and the exponential of -a² / 2
abbrev pub pdf_by_exponential : Float → Float → Float → Float → Float
pdf_by_exponential x sqrt_x a e = norm_pdf_of_square a e ⊘ (x ⊗ sqrt_x)

-- the density at x, from √x and a
abbrev pub pdf_from : Float → Float → Float → Float
pdf_from x sqrt_x a = norm_pdf (a ⊗ a) ⊘ (x ⊗ sqrt_x)

-- the distribution and the density at x
abbrev pub view_evaluation : Float → Evaluation → Sample
view_evaluation x e = sample e.value (pdf_by_exponential x e.sqrt_x e.a e.exponential)

-- the survival and the density at x
abbrev pub view_survival_evaluation : Float → SurvivalEvaluation → Sample
view_survival_evaluation x e = sample e.value (pdf_from x e.sqrt_x e.a)

-- the Newton step at x
abbrev pub step_at : Float → Float → Float → Float → Option Float
step_at x p lp mu = inverse_gaussian_nrstep_standardized x (inverse_gaussian_cdf_standardized x mu) p lp mu
