-- What is to be believed.
pub mod Spelling
-- Words of contracts.
pub mod SpellingTable
-- Laws.
pub mod SpellingLaws
