-- what a reader has to believe: the statement
pub mod Fault
pub mod Line
pub mod History
pub mod Track
pub mod Frame
pub mod Quantity
pub mod Check
