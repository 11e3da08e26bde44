-- What is to be believed.
pub mod Operators
pub mod Filter
pub mod FilterTruth
pub mod Converse
pub mod Ogc
pub mod Claims
pub mod Accepted
-- Laws.
pub mod OperatorLaws
pub mod FilterLaws
pub mod TruthLaws
pub mod InstantLaws
pub mod ReadBackLaws
pub mod AtomLaws
pub mod CondLaws
