-- what a reader has to believe: the statement
pub mod Rows
-- what the proofs need
pub mod Ends
pub mod Places
