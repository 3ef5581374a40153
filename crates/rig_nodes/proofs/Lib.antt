mod Ids
mod Grouped
mod Fits
mod Pushed
mod Same
mod Inserted
mod Numbers
mod SmallScenes
