-- The theorem, and at work on bytes.
pub mod TruthKept
pub mod Instances
