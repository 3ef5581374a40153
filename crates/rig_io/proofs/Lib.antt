pub mod Pieces
pub mod Buffers
