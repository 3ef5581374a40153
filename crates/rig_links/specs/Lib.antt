-- what a reader has to believe: the statement
pub mod Links
-- what the proofs need
pub mod Numbers
pub mod SameOperation
pub mod Parts
pub mod ByKey
pub mod Tables
pub mod Report
