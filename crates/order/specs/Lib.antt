-- What is to be believed.
pub mod Order
-- Words of private contracts.
pub mod ValueWords
-- Laws.
pub mod OrderLaws
pub mod ValueLaws
