pub mod Shown
pub mod Walked
pub mod Found
