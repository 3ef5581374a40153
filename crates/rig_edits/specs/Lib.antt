-- what a reader has to believe: the statement
pub mod Cause
pub mod DriverByNames
pub mod Named
pub mod Conditions
pub mod Edited
pub mod Examples
-- what the contracts of the steps of an edit say
pub mod Answers
pub mod Steps
pub mod Slots
pub mod DriverCauses
pub mod DriverPlaces
pub mod KeyPlaces
pub mod CurvePlaces
pub mod LayerPlaces
pub mod Modifiers
pub mod Points
pub mod NewData
-- that an accepted edit leaves a scene
pub mod Lists
pub mod Replaced
pub mod KeyLists
pub mod Accepted
pub mod NamedFacts
pub mod Refers
pub mod Carried
pub mod KeepsObjects
pub mod KeepsStacks
pub mod KeepsPencils
pub mod KeepsActions
pub mod KeepsDrivers
pub mod KeepsAdded
pub mod KeepsRemoved
pub mod Keeps
