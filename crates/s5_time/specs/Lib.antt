pub mod Bcd
pub mod Duration
