-- `quote::implied_black_volatility_input` meets its contract: it is allowed as many evaluations as any quote can make. Assumes nothing.
use Rattle.explicit_black.specs.Laws.Quote.{input_count}
use Rattle.explicit_black.proofs.Allowed.{enough_within}
use Rattle.explicit_black.proofs.quote.implied_black_volatility_input.Goals as goal

pub reply-requires : goal.reply-requires
reply-requires c = enough_within 2263 _ _ (rw c.new-allowed.ensures at c.from_quote-solved.ensures.metered) (input_count _ _ _ _ _)
