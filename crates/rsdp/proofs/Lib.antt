-- Laws about the root pointer, which the crates above cite.
pub mod PointerLaws
pub mod SearchLaws
pub mod ValidLaws
pub mod NamedLaws
