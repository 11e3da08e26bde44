-- What is to be believed.
pub mod Charset
pub mod Named
-- Words of private contracts.
pub mod ClassWords
