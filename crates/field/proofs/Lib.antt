-- Laws about the definitions of this crate. Other crates cite these and never look into the definitions.
pub mod NumberLaws
pub mod PartLaws
pub mod TextLaws
pub mod WalkLaws
pub mod FirstLaws
pub mod ChoiceLaws
pub mod ThenLaws
