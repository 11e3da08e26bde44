-- What is to be believed.
pub mod Op
-- Laws.
pub mod OpLaws
