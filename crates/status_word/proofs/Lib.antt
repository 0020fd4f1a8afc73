pub mod Bits
pub mod Differs
