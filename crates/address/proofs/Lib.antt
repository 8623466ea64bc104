-- Laws about generic addresses.
pub mod AddressLaws
pub mod Examples
