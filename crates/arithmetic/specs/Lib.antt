-- What layer one computes, in the order to read it:
-- * Operations to Ln: the definitions that the contracts of public functions cite. A reader has to believe these, beside lib.Ieee of the kit;
-- * Internal: definitions that only serve the code, for the contracts of its inner steps;
-- * Laws: proved facts about the definitions, which proofs here and the layers above cite;
-- * Examples: values that the definitions compute.
pub mod Operations
pub mod Basic
pub mod Magnitude
pub mod Sqrt
pub mod MulAdd
pub mod Exp
pub mod Ln
pub mod Internal
pub mod Laws
pub mod Examples
