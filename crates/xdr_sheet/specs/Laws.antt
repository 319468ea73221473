-- Proved facts about the definitions: the size and quotes of a sheet, how long lines are, and that the parts of the text are the text.
pub mod Lines
pub mod PriceRecord
pub mod Printing
pub mod Sheet
pub mod Tally
