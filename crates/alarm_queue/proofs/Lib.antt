pub mod CursorLaws
pub mod DueLaws
pub mod Once
pub mod OrderLaws
pub mod CapacityLaws
