pub mod Lanes
pub mod Sides
pub mod Chart
