-- what a reader has to believe: the statement
pub mod Cut
pub mod Pair
pub mod Walk
pub mod Depth
pub mod Names
pub mod Order
pub mod Examples
-- what the proofs need
pub mod Elements
pub mod Leads
pub mod CutSteps
pub mod Acyclic
pub mod CutAlike
pub mod DepthIsEnough
pub mod CutOfNames
pub mod RankOrder
