-- Laws that only the proofs of this crate need, and the bound of `erfcx` above the threshold.
pub mod AsymptoticSum
pub mod Sixteenths
pub mod ErfcxAbove
