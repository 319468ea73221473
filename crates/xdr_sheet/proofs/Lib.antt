-- Laws that only the proofs of this crate cite.
mod Fill
pub mod Cases
pub mod Patterns
pub mod Digits
pub mod Words
mod Lines
