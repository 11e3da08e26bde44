-- What is to be believed.
pub mod Choice
pub mod Bytes
-- Laws.
pub mod ChoiceLaws
pub mod Table
