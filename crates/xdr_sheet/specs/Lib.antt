-- What the crate promises, in layers. A reader must believe the definitions: Xdr, words in bytes; Tally, finite answers, infinite answers and
-- refusals counted; Text, numbers and lines in ASCII; Sheet, a sheet's quotes, their replies and its whole text; PriceRecord, the record of a price
-- and its reply; Replies, what the code's replies stand for; Printing, the text line by line and in parts. Internal says what the code's lines in
-- memory and its structs stand for, and which bytes it reads. Laws has proved facts, and Examples texts that the definitions compute.
pub mod Xdr
pub mod Tally
pub mod Text
pub mod Sheet
pub mod PriceRecord
pub mod Replies
pub mod Printing
pub mod Internal
pub mod Laws
pub mod Examples
