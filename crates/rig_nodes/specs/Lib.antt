-- what a reader has to believe: the statement
pub mod Drivers
-- what the proofs need
pub mod DriverRows
pub mod Slots
pub mod Example
