pub mod IndexLaws
pub mod Steps
pub mod Simple
