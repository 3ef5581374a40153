mod Sorted
mod Flat
mod Grouped
mod Select
