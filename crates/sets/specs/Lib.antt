pub mod Bits
pub mod Set
pub mod SetLaws
