-- What is to be believed.
pub mod Record
-- Laws.
pub mod FrameLaws
