-- Words of private contracts, and of the test by number.
pub mod ClassWords
