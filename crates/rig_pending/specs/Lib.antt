-- what a reader has to believe: the statement
pub mod Ordered
