pub mod Share
