-- Facts about the definitions, each proved: Places, the steps of a place and of the count; Ladder, what holds of every ladder.
pub mod Places
pub mod Ladder
