mod Kept
mod Written
mod Renumbered
mod SmallScenes
