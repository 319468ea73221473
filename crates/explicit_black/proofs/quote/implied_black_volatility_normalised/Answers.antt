-- `quote::implied_black_volatility_normalised` meets its contract: it is allowed as many evaluations as any quote can make. Assumes nothing.
use Rattle.std.proofs.Common.{◌≡◌, ◌&&◌, true, arith}
use Rattle.arithmetic.specs.Basic.{is_finite}
use Rattle.explicit_black.specs.Quote.{implied_black_volatility_normalised}
use Rattle.explicit_black.specs.Laws.Quote.{normalised_count}
use Rattle.explicit_black.proofs.Allowed.{enough_within, root_one}
use Rattle.explicit_black.proofs.quote.implied_black_volatility_normalised.Goals as goal

pub reply-requires : goal.reply-requires
reply-requires c = enough_within 2263 _ _ (rw c.new-allowed.ensures at c.from_normalised_price-solved.ensures.metered) (normalised_count _ _)

pub returns : goal.returns
unfolding implied_black_volatility_normalised
returns c =
    let finite : (is_finite c.args.log_moneyness && is_finite c.args.normalised_price) ≡ true = grind arith in
    rw (finite, ← root_one) (c.reply.ensures _ (rw c.new-allowed.ensures at c.from_normalised_price-solved.ensures.metered))
