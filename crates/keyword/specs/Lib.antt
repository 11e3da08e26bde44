-- What is to be believed.
pub mod Keywords
pub mod Reserved
-- Words of private contracts.
pub mod TableWords
