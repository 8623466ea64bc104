-- How the answers of the other crates reach a caller in another language.
pub mod Answer
pub mod Aml
pub mod Words
