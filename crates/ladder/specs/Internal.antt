-- What the code's own types and steps stand for, for the contracts below the entry.
pub mod Place
