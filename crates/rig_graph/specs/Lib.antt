-- what a reader has to believe: the statement
pub mod State
pub mod Taken
pub mod Report
-- what the proofs need
pub mod Parts
pub mod Given
pub mod NextFrame
pub mod LastPlan
pub mod Ready
pub mod Taking
pub mod TagsAdded
pub mod ToShow
pub mod RunsFromFresh
pub mod ChangedFrame
pub mod Evaluated
pub mod ShownOnce
pub mod Opened
pub mod Left
pub mod Finished
pub mod TakenInPlace
pub mod TakenAnew
pub mod TakenInOrder
pub mod Tallied
pub mod Finish
pub mod AddedOnce
pub mod CutSources
pub mod EachGiven
