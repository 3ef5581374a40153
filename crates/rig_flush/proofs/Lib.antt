pub mod Evaluated
pub mod ShownOf
mod SameByEq
mod Rising
mod Sorted
mod Spread
mod Numbering
mod Planned
mod Plannable
mod SameRows
mod Retagged
