-- Laws about the entries of an MCFG table and the windows that they open.
pub mod EntryLaws
pub mod WindowLaws
pub mod Examples
