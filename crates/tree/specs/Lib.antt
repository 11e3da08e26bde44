-- What is to be believed.
pub mod Limits
pub mod Kinds
pub mod Tree
pub mod Tests
pub mod Levels
pub mod Parse
pub mod Placed
pub mod Accepted
pub mod Written
-- Words of inner contracts.
pub mod LimitWords
pub mod WalkWords
pub mod GoodWords
-- Laws.
pub mod ByteLaws
pub mod TestsLaws
pub mod ParseLaws
pub mod EncodeLaws
pub mod AcceptedLaws
pub mod LimitLaws
pub mod LevelLaws
pub mod RefusalLaws
