-- Facts about the definitions, which the proofs here and the crates above cite.
pub mod SharedExponential
pub mod Polynomial
pub mod PolynomialBounds
pub mod ErfcxBounds
pub mod ErfinvBounds
