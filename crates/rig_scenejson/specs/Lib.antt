-- what a reader has to believe: the statement
pub mod Member
pub mod Fault
pub mod Tests
pub mod Value
pub mod Given
pub mod PassOne
pub mod PassTwo
pub mod Reading
pub mod Paths
-- scaffolding: what code keeps on the way
pub mod Poses
