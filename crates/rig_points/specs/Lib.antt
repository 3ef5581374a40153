-- what a reader has to believe: the statement
pub mod Change
pub mod Near
pub mod Reach
-- what the proofs need
pub mod Shift
