-- What an HPET table says.
pub mod Hpet
