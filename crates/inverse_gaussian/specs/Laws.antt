-- Facts about the definitions, each proved: how many evaluations a search makes at most, that its root is a value of binary64, that its open loops
-- end, and laws that proofs cite.
pub mod Counted
pub mod Metered
pub mod Counts
pub mod Roots
pub mod Units
pub mod DoublingEnds
pub mod HalvingEnds
