-- What the proofs of several functions use.
pub mod Laws
mod WalkLaws
pub mod Tests
