-- Facts about the definitions, which the proofs here and the layers above cite.
-- Whole numbers, choices and lists; values as fractions, bit patterns and signs:
pub mod Numbers
pub mod Choices
pub mod Slices
pub mod Ratio
pub mod Times
pub mod Patterns
pub mod Signs
-- Rounding, and each operation on values and on 2 ^ k times each:
pub mod Rounding
pub mod Representable
pub mod Compare
pub mod Sums
pub mod Products
pub mod Extremes
pub mod ScaledRatios
pub mod Identities
pub mod Zeros
pub mod Bounds
pub mod Sizes
pub mod ShiftedSums
pub mod SumOrder
pub mod PowerBounds
pub mod UnitInterval
pub mod ScaledProducts
pub mod Overflow
-- The square root:
pub mod WholeRoots
pub mod SqrtValues
pub mod SqrtScaling
pub mod SqrtNearest
pub mod SqrtBounds
pub mod RootBounds
-- What `exp` and `ln` rest on; quotients by roots:
pub mod PowersOfTwo
pub mod ExpFits
pub mod ExpBounds
pub mod Logarithm
pub mod LnBounds
pub mod Quotients
