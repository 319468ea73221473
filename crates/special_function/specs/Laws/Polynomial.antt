-- Nested calls of a polynomial are Horner's chain, since a product's factors may be exchanged. Assumes nothing.
use Rattle.std.specs.Prelude.{◌≡◌, refl, List, [], ◌∷◌, Float}
use Rattle.std.proofs.Common.{ap, ◌∙◌}
use Rattle.std.specs.Float.{binary64}
use Rattle.std.specs.Float.Ieee.{add}
use Rattle.arithmetic.specs.Basic.{mul_add2_sel}
use Rattle.arithmetic.specs.Laws.Identities.{mul_swap}
use Rattle.special_function.specs.Polynomial.{evaluate, nested_from}

pub nested_chain : (z v : Float) (cs : List Float) → nested_from z v cs ≡ evaluate v cs z
unfolding nested_from evaluate
nested_chain z v [] = refl
nested_chain z v (c ∷ cs) =
    nested_chain z (mul_add2_sel z v c) cs ∙ ap (λ (p : Float). evaluate (add binary64 p c) cs z) (mul_swap binary64 z v)
