-- Laws about tables that are found, and about the bytes that count.
pub mod FindLaws
pub mod NamedLaws
pub mod PlatformLaws
