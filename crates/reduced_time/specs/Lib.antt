-- What is to be believed.
pub mod Hypotheses
-- The smallest cases outside its hypotheses.
pub mod Examples
-- Laws.
pub mod KeyLaws
pub mod KeptLaws
