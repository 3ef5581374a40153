-- what a reader has to believe: the statement
pub mod Links
pub mod Plan
-- short lists for the examples
pub mod Examples
-- what the proofs need
pub mod NodeSets
pub mod MemberTests
pub mod Graphs
pub mod Search
pub mod Release
pub mod PlanRows
pub mod Positions
