pub mod Laws
pub mod Begun
pub mod LinesProof
pub mod Whole
