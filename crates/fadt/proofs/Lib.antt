-- Laws about the definitions of this crate.
pub mod RoomLaws
pub mod FlagLaws
pub mod BlockLaws
pub mod Examples
