pub mod Determines
