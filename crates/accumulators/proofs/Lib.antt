pub mod Wide
pub mod Digits
pub mod ReadBack
