-- what the proofs need
pub mod Chains
