use mathlib.Core.Path.{◌≡◌}
use lib.ListN.{drop}
use Rattle.special_function.specs.Polynomial.{evaluate}
use Rattle.special_function.proofs.polynomial.evaluate.Given as goal

abbrev pub invariant-loop-c : goal.invariant-loop-c
invariant-loop-c l = evaluate l.value (drop l.c-index l.coefficients) l.z ≡ evaluate l.start l.coefficients l.z
