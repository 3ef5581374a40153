-- what a reader has to believe: the statement
pub mod Fixed
pub mod Number
pub mod Vector
pub mod Rotation
pub mod Transform
pub mod Example
-- what the proofs need
pub mod Bounds
