pub mod Callers
pub mod Words
