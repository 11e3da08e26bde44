-- What is to be believed.
pub mod Literal
-- Laws.
pub mod LiteralLaws
