pub mod Bytes
pub mod Kind
pub mod Rule
pub mod State
