pub mod CallerLaw
pub mod Inside
pub mod Levels
pub mod StartInfo
pub mod Values
