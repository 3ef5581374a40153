-- what a reader has to believe: the statement (the proofs need no more)
pub mod Faults
pub mod Bytes
pub mod Got
pub mod Put
pub mod Memory
pub mod Lends
