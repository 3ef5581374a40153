mod Copying
mod Counting
mod Fewer
mod Sides
