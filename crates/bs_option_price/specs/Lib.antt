-- What layer three promises, and what is proved of it. To know what its functions compute, read the definitions:
--   Table: the polynomials a0 to a16 by their 153 coefficients, and the rule that these follow;
--   BsOptionPrice: the normalised price, its three formulas, and the log-moneyness, in the source's names.
-- Nothing below has to be believed:
--   Laws: facts proved of the definitions.
pub mod Table
pub mod BsOptionPrice
pub mod Laws
