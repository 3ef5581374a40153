mod Bits
mod InPlace
mod Unclamped
