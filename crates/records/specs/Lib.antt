-- What the contracts of records cite. Definitions only.
pub mod Bits
