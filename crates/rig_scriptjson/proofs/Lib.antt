pub mod First
pub mod Chains
pub mod Words
pub mod Items
pub mod VariableKinds
pub mod Frames
pub mod Vectors
