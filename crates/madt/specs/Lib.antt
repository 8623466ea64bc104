-- The Multiple APIC Description Table (ACPI 6.5, section 5.2.12; docs/TABLES.md, section 11).
pub mod Kinds
pub mod Fields
pub mod Fixed
pub mod Entries
pub mod Walk
pub mod SoundEntries
