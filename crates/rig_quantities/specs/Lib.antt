-- what a reader has to believe: the statement
pub mod Find
pub mod Part
pub mod Slots
pub mod Example
