-- The interrupt model (ACPI 6.5, section 5.2.12; docs/TABLES.md, section 11).
pub mod Lists
pub mod Records
pub mod Wrong
pub mod Model
pub mod Fill
pub mod Mailbox
pub mod Inner
