-- Laws about valid tables, which the crates above cite.
pub mod ValidLaws
