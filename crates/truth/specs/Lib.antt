-- What is to be believed.
pub mod Grammar
pub mod Reading
-- Words of private contracts.
pub mod PlaceWords
-- Laws.
pub mod GrammarLaws
pub mod MissingLaws
pub mod ReadingLaws
