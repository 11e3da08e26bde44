pub mod Part
pub mod Answered
