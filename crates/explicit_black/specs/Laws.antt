-- Facts about the definitions, each proved: the theorems that are promised of them, and laws that proofs cite. Demand 3 and the law of 4 ^ n for prices
-- follow from them in proofs/.
pub mod Demand
pub mod Discount
pub mod DiscountDemand
pub mod DividedPrices
pub mod Guards
pub mod Infinite
pub mod Kinds
pub mod Powers
pub mod Price
pub mod PriceNumbers
pub mod PricePowers
pub mod Quote
pub mod ScaledPrice
pub mod Tests
pub mod ZeroPrice
