-- What is to be believed.
pub mod Condition
pub mod Translators
-- Contracts of the inner public functions.
pub mod Template
-- Laws.
pub mod TemplateLaws
