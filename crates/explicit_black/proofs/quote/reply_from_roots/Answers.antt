-- `quote::reply_from_roots` meets its contract: it is allowed as many evaluations as any quote can make. Assumes nothing.
use Rattle.explicit_black.specs.Laws.Quote.{time_value_count}
use Rattle.explicit_black.proofs.Allowed.{enough_within}
use Rattle.explicit_black.proofs.quote.reply_from_roots.Goals as goal

pub reply-requires : goal.reply-requires
reply-requires c = enough_within 2263 _ _ (rw c.new-allowed.ensures at c.from_roots-solved.ensures.metered) (time_value_count _ _)
