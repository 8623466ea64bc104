-- Memory as it is lent: one slice of bytes, and a list of the physical ranges that stand in it.
pub mod Ranges
pub mod Places
pub mod Pieces
pub mod Asked
pub mod Statements
