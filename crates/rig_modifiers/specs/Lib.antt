-- what a reader has to believe: the statement
pub mod Partly
pub mod Few
-- what the proofs need
pub mod Copies
pub mod Near
pub mod Sides
