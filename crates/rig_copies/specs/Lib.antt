-- what a reader has to believe: the statement
pub mod Copies
-- what the proofs need
pub mod Keys
pub mod Numbers
pub mod Put
pub mod Moved
