-- What is to be believed.
pub mod Sort
pub mod Rules
pub mod Reduced
pub mod Reducing
-- Laws.
pub mod WalkWords
pub mod ReducedLaws
pub mod PlaceLaws
pub mod SelfLaws
pub mod MeetLaws
pub mod ReducingLaws
