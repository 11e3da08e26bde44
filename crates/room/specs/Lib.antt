-- What is to be believed.
pub mod Room
-- Laws.
pub mod RoomLaws
