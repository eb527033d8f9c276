pub mod Laws
pub mod Next
pub mod Chunks
pub mod OneLine
