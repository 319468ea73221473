-- `polynomial::nested` meets its contract: nested calls are Horner's chain from the first coefficient. Assumes nothing.
use Rattle.std.proofs.Common.{◌≡◌, ◌∙◌, ◌-◌, ◌≤◌, sym, ap, List, [], ◌∷◌, Float, length, get_or, take, drop, arith}
use Rattle.std.specs.Float.{nan}
use Rattle.std.proofs.lemmas.List.{take_all}
use Rattle.special_function.specs.Polynomial.{evaluate, nested}
use Rattle.special_function.specs.Laws.Polynomial.{nested_chain}
use Rattle.special_function.proofs.polynomial.nested.Goals as goal

from_first : (z : Float) (cs : List Float) → 1 ≤ length cs → evaluate (get_or cs 0 nan) (take (length cs - 1) (drop 1 cs)) z ≡ nested z cs
unfolding nested
from_first z [] h = absurd (omega arith)
from_first z (c ∷ cs) h = ap (λ (l : List Float). evaluate c l z) (take_all _ cs (omega arith)) ∙ sym (nested_chain z c cs)

pub returns-in-len1-up : goal.returns-in-len1-up
returns-in-len1-up c = c.evaluate.ensures ∙ from_first _ _ c.in-len1-up.len_at_least
