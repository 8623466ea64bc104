-- How a reader of a stored file goes on, what a question asks about, what the values of an answer are, and how questions are counted.
pub mod Case
pub mod Reader
pub mod Tally
pub mod Values
