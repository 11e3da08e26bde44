-- What is to be believed.
pub mod Emit
-- Words of private contracts.
pub mod LaysWords
-- Laws.
pub mod EmitLaws
pub mod RoomLaws
