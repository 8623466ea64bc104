-- What all tables are made of: numbers, parts, text, and the first refusal that applies.
pub mod Number
pub mod Part
pub mod Text
pub mod Walk
pub mod First
pub mod Choice
pub mod Then
