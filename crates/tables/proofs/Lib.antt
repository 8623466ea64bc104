-- Laws about the root table and the tables that it lists.
pub mod RootLaws
pub mod EntryLaws
pub mod TableLaws
pub mod FoundLaws
pub mod NamedLaws
