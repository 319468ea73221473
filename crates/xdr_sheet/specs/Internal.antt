-- What the code's lines in memory and its structs stand for, and which bytes it reads.
pub mod Bytes
pub mod Lines
pub mod Printing
