pub mod Sinks
pub mod Held
pub mod PlainScene
pub mod PlainOperations
pub mod Passes
pub mod Steps
pub mod PlainWorlds
pub mod Playable
pub mod Ends
mod Values
mod OptionReads
mod Options
mod Lines
pub mod Contents
pub mod Replies
