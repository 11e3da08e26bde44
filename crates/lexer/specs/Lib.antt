-- What is to be believed.
pub mod Lex
-- Words of the contracts of the token reader.
pub mod TokenWords
-- Laws.
pub mod LexLaws
