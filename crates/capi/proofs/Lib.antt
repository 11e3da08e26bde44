-- What the proofs of several functions use.
pub mod Laws
-- That two different answers never give the same number: it rests on the numbers that must-fail/ edits.
pub mod NumbersLaws
