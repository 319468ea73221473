-- What only the proofs of this crate cite: how a search makes a turn and goes on from one part to the next.
pub mod Turns
pub mod Searches
pub mod Starts
pub mod Agree
