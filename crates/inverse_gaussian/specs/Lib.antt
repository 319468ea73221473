-- What layer four computes (REQUIREMENTS 10.2 to 10.11), and what is proved of it. The files here are the definitions that its contracts and theorems
-- promise, in the order in which they build on each other: a reader has to believe these. Internal says what the code's own types stand for; the
-- contracts of this crate cite it, those of the entries above do without it. Laws has facts about the definitions, each proved.
pub mod Counted
pub mod Loops
pub mod Curves
pub mod Bracket
pub mod Newton
pub mod Quantile
pub mod Survival
pub mod Internal
pub mod Laws
