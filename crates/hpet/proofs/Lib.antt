-- A worked example of the definitions.
pub mod Examples
