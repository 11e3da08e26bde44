-- What is to be believed.
pub mod Utf8
pub mod Quote
-- Words of private contracts.
pub mod SequenceWords
-- Laws.
pub mod QuoteLaws
