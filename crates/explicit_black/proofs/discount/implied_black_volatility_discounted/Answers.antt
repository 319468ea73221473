-- `discount::implied_black_volatility_discounted` meets its contract: it is allowed as many evaluations as any quote can make. Assumes nothing.
use Rattle.explicit_black.specs.Laws.Discount.{discounted_count}
use Rattle.explicit_black.proofs.Allowed.{enough_within}
use Rattle.explicit_black.proofs.discount.implied_black_volatility_discounted.Goals as goal

pub reply-requires : goal.reply-requires
reply-requires c = enough_within 2263 _ _ (rw c.new-allowed.ensures at c.from_discounted_quote-solved.ensures.metered) (discounted_count _ _ _ _ _ _)
