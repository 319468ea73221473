-- What is left of an allowance, and the tests, which only the proofs of this crate cite. And demand 3 and the law of 4 ^ n for prices, which follow from the laws of
-- specs/: they rest on `upward` and `times_up`, which say that `Exactly` has 4 ^ n, and nothing in specs/ does, so that an edit of 4 ^ n is refused
-- there by the facts that it makes false.
pub mod Allowed
pub mod Demand
pub mod DiscountDemand
pub mod DividedPrices
pub mod PriceLaw
pub mod Tests
