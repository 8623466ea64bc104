-- What the Fixed ACPI Description Table says (ACPI 6.5, section 5.2.9, Table 5.9; docs/TABLES.md, section 10).
pub mod Room
pub mod Forms
pub mod Values
pub mod Blocks
pub mod Registers
pub mod Fields
pub mod Profiles
pub mod Flags
