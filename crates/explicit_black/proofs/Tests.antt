-- Lemmas that the check tries where tests refuse a quote. Assumes nothing.
use Rattle.explicit_black.specs.Laws.Quote.{no_side, a_side}
use Rattle.explicit_black.specs.Laws.Discount.{factor_not_finite, factor_tested_last}

pub ruleset sides = (no_side, a_side)

pub ruleset discounted_tests = (sides, factor_not_finite, factor_tested_last)
