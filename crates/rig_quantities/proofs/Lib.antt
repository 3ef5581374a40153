pub mod Rising
pub mod Picked
pub mod DriverRows
pub mod SlotFacts
