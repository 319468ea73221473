-- Definitions that only serve the code: what the contracts of its inner steps cite. No promise of the layer rests on them.
pub mod Basic
pub mod Exponent
pub mod MulAdd
pub mod MulAddSteps
pub mod Exp
pub mod Ln
pub mod WholePart
pub mod Pair
pub mod Sqrt
