-- From the root pointer to tables: the root table, its entries, and the n-th valid table.
pub mod Root
pub mod Tables
pub mod Good
pub mod Named
pub mod Statements
