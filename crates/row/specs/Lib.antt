-- What is to be believed.
pub mod Row
-- Words of private contracts.
pub mod RowWords
-- Laws.
pub mod RowLaws
