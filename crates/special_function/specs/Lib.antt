-- What layer two promises, and what is proved of it. To know what its functions compute, read the definitions:
--   Constants, Polynomial, ErrorFunction, NormalDistribution, Erfinv: a file for each module of the source, in the source's names; Polynomial has the
--   chains of `mul_add2_sel` that the source writes out, and Erfinv the function of error_function.rs that needs the inverses of NormalDistribution.
-- The rest is proved or computed:
--   Internal: the density by an exponential that is at hand, as `norm_pdf_of_square` promises it; a law says that it is the density; the table of `power_at`;
--   Laws: facts proved of the definitions;
--   Examples: values that antt computes from them, at the ends of Cody's ranges.
pub mod Constants
pub mod Polynomial
pub mod ErrorFunction
pub mod NormalDistribution
pub mod Erfinv
pub mod Internal
pub mod Laws
pub mod Examples
