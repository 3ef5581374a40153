-- what a reader has to believe: the statement
pub mod ChannelCurves
pub mod Tables
-- what the proofs need
pub mod Values
pub mod Driven
pub mod LayerBy
pub mod VariableBy
pub mod Joined
