-- `sqrt::of_normal` meets its contract: the nearest root has the pattern of the rounded root. Assumes nothing.
use Rattle.std.proofs.Common.{arith, subst, ℕ}
use denote.Floats.{passes}
use Rattle.arithmetic.specs.Laws.Patterns.{built_no_nan}
use Rattle.arithmetic.specs.Internal.Sqrt.{Closest}
use Rattle.arithmetic.proofs.SqrtPaths.{leading_at}
use Rattle.arithmetic.proofs.sqrt.of_normal.Goals as goal

pub float_from_bits-result : goal.float_from_bits-result
float_from_bits-result c = let nearest = c.is_closest.ensures (passes _ c.if-is_closest.true) in built_no_nan _ _ (omega arith) nearest.2

pub returns-then-is_closest : goal.returns-then-is_closest
returns-then-is_closest c =
    let nearest = c.is_closest.ensures (passes _ c.if-is_closest.true) in
    leading_at c.args.b _ (omega arith) (omega arith) (subst (λ (w : ℕ). Closest w c.estimate-q.result) c.of_pattern-digits.ensures nearest)

pub float_from_bits-result-2 : goal.float_from_bits-result-2
float_from_bits-result-2 c = built_no_nan _ _ (omega arith) c.closest.ensures.2

pub returns : goal.returns
returns c =
    leading_at c.args.b _ (omega arith) (omega arith) (subst (λ (w : ℕ). Closest w c.closest.result) c.of_pattern-digits.ensures c.closest.ensures)
