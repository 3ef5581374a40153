mod Named
mod Splits
