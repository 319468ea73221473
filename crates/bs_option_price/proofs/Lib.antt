-- Laws that only the proofs of this crate need, and the computed tests of the table.
pub mod Expansion
pub mod TableTests
