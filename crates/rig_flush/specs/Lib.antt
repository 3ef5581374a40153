-- what a reader has to believe: the statement
pub mod Reach
pub mod Retag
pub mod Shown
pub mod Graph
pub mod Evaluation
pub mod Tables
pub mod Counted
-- what the proofs need
pub mod ByNumber
pub mod Search
pub mod ReachByNumber
pub mod Options
pub mod Inputs
pub mod Begun
pub mod RunRight
pub mod ShownThere
pub mod PublishedRight
-- an edit that keeps all links keeps the tables
pub mod KeepsTables
pub mod Opened
pub mod TakenFresh
pub mod MarksInOrder
pub mod ReachedInOrder
pub mod TagsOfScene
pub mod InOrder
