-- Laws that only the proofs of the ladder cite.
mod Places
pub mod Tests
