-- What is to be believed.
pub mod Settings
-- Words of the contract of `collation_flags`.
pub mod FlagWords
