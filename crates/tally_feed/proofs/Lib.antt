pub mod Overlong
pub mod Buffer
pub mod Begun
pub mod Alike
pub mod Keeping
pub mod Theorem
