-- what a reader has to believe: the statement
pub mod EditFaults
pub mod EditGiven
pub mod Script
