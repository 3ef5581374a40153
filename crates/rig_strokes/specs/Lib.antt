-- what the proofs need
pub mod Shown
