-- what a reader has to believe: the statement
pub mod Status
pub mod Command
pub mod CommandExamples
pub mod State
pub mod Flush
pub mod Output
pub mod Plain
pub mod PlainScript
pub mod Input
pub mod Check
pub mod Run
-- what the proofs need
pub mod Readings
pub mod Made
pub mod Options
pub mod Stands
