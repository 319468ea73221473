-- `quote::from_call_price` meets its contract where a search found a root, or none. Assumes nothing.
use Rattle.std.proofs.Common.{arith}
use Rattle.explicit_black.proofs.Allowed.{searched_have}
use Rattle.explicit_black.specs.Quote.{from_call_price}
use Rattle.explicit_black.proofs.quote.from_call_price.Goals as goal

pub returns-in_err-total_at-clause-metered : goal.returns-in_err-total_at-clause-metered
unfolding from_call_price
returns-in_err-total_at-clause-metered c =
    let refusal = searched_have _ _ _ _ _ c.in_ok-root.ensures.metered c.in_err-total_at.ensures in
    rw c.if-otm_call_price.true (grind (arith, refusal))

pub returns-then-otm_call_price-clause-metered : goal.returns-then-otm_call_price-clause-metered
unfolding from_call_price
returns-then-otm_call_price-clause-metered c =
    rw c.if-otm_call_price.true (searched_have _ _ _ _ _ c.in_ok-root.ensures.metered c.in_ok-total_at.ensures)

pub returns-in_err-total_at-2-clause-metered : goal.returns-in_err-total_at-2-clause-metered
unfolding from_call_price
returns-in_err-total_at-2-clause-metered c =
    let refusal = searched_have _ _ _ _ _ c.in_ok-root-2.ensures.metered c.in_err-total_at-2.ensures in
    rw (c.if-otm_call_price.false, c.if-probability.false, c.if-probability-2.false) (grind (arith, refusal))

pub returns-clause-metered : goal.returns-clause-metered
unfolding from_call_price
returns-clause-metered c =
    rw (c.if-otm_call_price.false, c.if-probability.false, c.if-probability-2.false)
    (searched_have _ _ _ _ _ c.in_ok-root-2.ensures.metered c.in_ok-total_at-2.ensures)
