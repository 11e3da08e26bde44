-- Contracts of the inner public functions.
pub mod Ends
