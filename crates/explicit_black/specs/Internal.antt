-- What the code's own types say in those of the definitions, for the contracts of the steps of a quote. The contracts of the entries do without them.
pub mod Quote
