-- What is to be believed.
pub mod Case
-- Laws.
pub mod CaseLaws
