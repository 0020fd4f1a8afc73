pub mod CallerLaw
pub mod Counts
pub mod Frames
pub mod Last
pub mod ReadBack
pub mod Running
