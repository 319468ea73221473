-- What a step of the code promises that the source does not have.
pub mod SharedExponential
pub mod PowerTable
