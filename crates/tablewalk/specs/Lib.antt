-- The questions that other languages ask: a number is the result, values go to a lent buffer.
pub mod Asked
pub mod Fadt
pub mod Lists
pub mod Named
pub mod Platform
pub mod Statements
