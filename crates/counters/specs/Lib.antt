pub mod Bytes
pub mod Rule
pub mod State
