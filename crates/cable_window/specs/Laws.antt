-- Facts about the definitions, each proved: Fits, how large the parts of a window's reply are; Bytes, words in bytes; Writes, the parts of a write;
-- Host, promises to a host. What one write does, and the other promises, follow from them in proofs/.
pub mod Fits
pub mod Bytes
pub mod Writes
pub mod Host
