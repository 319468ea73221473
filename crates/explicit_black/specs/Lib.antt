-- What the entries compute (REQUIREMENTS 10.12, 10.13, 14), and what is proved of them. The files here are the definitions that their contracts and
-- theorems promise, in the order in which they build on each other and on those of inverse_gaussian: a reader has to believe these. Internal says what
-- the code's own types stand for.
-- Laws has facts about the definitions, each proved. Keystrokes, PriceExamples and DiscountExamples have values that the definitions compute.
pub mod Quote
pub mod Price
pub mod Refusal
pub mod Replies
pub mod Demand
pub mod Discount
pub mod Guards
pub mod Infinite
pub mod Internal
pub mod Laws
pub mod Keystrokes
pub mod PriceExamples
pub mod DiscountExamples
