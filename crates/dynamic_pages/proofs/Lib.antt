pub mod Again
pub mod Laid
pub mod Whole
