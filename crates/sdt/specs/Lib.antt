-- The header that all tables begin with, and when a table is valid.
pub mod Header
pub mod Valid
pub mod Statements
