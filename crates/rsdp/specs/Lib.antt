-- The root pointer: when it is valid, and where it is searched for.
pub mod Pointer
pub mod Search
pub mod Asked
pub mod Statements
