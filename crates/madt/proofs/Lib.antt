-- Laws about the kinds, the fixed part and the entries of the MADT. Other crates cite these.
pub mod KindLaws
pub mod FixedLaws
pub mod EntryLaws
pub mod Examples
