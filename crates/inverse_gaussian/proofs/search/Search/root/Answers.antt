-- `search::Search::root` meets its contract. Assumes nothing.
use Rattle.inverse_gaussian.specs.Laws.Counted.{some_spent, some_have}
use Rattle.inverse_gaussian.specs.Laws.Metered.{passed_on}
use Rattle.inverse_gaussian.proofs.Turns.{told}
use Rattle.inverse_gaussian.proofs.Searches.{no_start, from_start, no_bracket, nowhere, in_bracket}
use Rattle.inverse_gaussian.proofs.search.Search.root.Goals as goal

pub returns-in_err-evaluate-clause-metered : goal.returns-in_err-evaluate-clause-metered
returns-in_err-evaluate-clause-metered g c = passed_on _ _ _ c.from_residual.ensures.0 (no_start _ _ _ _ _ _ c.in_err-evaluate.ensures.metered)

pub returns-in_err-bracket-clause-metered : goal.returns-in_err-bracket-clause-metered
returns-in_err-bracket-clause-metered g c = passed_on _ _ _ c.from_residual-in_err-bracket.ensures.0
    (from_start _ _ _ _ (told c.in_ok-evaluate.ensures.metered)
    (no_bracket _ _ _ (rw c.value-value.ensures at c.in_err-bracket.ensures.metered)))

pub returns-in_default-clause-metered : goal.returns-in_default-clause-metered
returns-in_default-clause-metered g c = from_start _ _ _ _ (told c.in_ok-evaluate.ensures.metered)
    (nowhere _ _ _ (rw (c.value-value.ensures, c.in_default.is) at c.in_ok-bracket.ensures.metered))

pub returns-in_err-iterations-clause-metered : goal.returns-in_err-iterations-clause-metered
returns-in_err-iterations-clause-metered g c = passed_on _ _ _ c.from_residual-in_err-iterations.ensures.0
    (from_start _ _ _ _ (told c.in_ok-evaluate.ensures.metered)
    (in_bracket _ _ _ (rw (c.value-value.ensures, c.in-Some.is) at c.in_ok-bracket.ensures.metered)
    (some_spent _ _ (rw c.begin.ensures at c.in_err-iterations.ensures.metered))))

pub returns-clause-metered : goal.returns-clause-metered
returns-clause-metered g c = from_start _ _ _ _ (told c.in_ok-evaluate.ensures.metered)
    (in_bracket _ _ _ (rw (c.value-value.ensures, c.in-Some.is) at c.in_ok-bracket.ensures.metered)
    (some_have _ _ _ _ (rw c.begin.ensures at c.in_ok-iterations.ensures.metered)))
