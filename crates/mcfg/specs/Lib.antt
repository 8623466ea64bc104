-- What an MCFG table says: its entries, and the addresses that follow from them.
pub mod Entries
pub mod Physical
