-- What is to be believed.
pub mod Text
pub mod Lowered
-- Words of private contracts.
pub mod RecordWords
pub mod LeafWords
pub mod EndWords
pub mod FormWords
pub mod NodeWords
-- Laws.
pub mod LoweredLaws
pub mod LimitLaws
