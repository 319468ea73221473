-- Facts about the definitions, which the proofs here and the crates above cite.
pub mod Constants
pub mod Table
pub mod Moneyness
pub mod MoneynessBounds
pub mod AsymptoticExpansion
pub mod SmallTExpansion
pub mod NoNan
