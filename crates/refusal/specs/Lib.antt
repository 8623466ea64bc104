-- The numbers of the refusals.
pub mod Number
