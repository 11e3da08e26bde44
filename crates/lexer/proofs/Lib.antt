-- What the proofs of several functions, and of the reader, use.
pub mod Arms
pub mod Tests
pub mod TokenLaws
