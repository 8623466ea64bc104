-- How the answers about a class of strings are counted.
pub mod Count
