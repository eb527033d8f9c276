pub mod Feed
pub mod Reads
