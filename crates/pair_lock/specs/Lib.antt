pub mod Meetings
pub mod Seats
pub mod Turns
pub mod Views
