-- What the code's own types say in those of the definitions, and what the code that serves both curves computes, for the contracts of the curves and
-- the searches.
pub mod Searches
pub mod Bracketed
pub mod Contracts
