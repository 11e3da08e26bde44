-- What is to be believed.
pub mod Controller
-- Theorems.
pub mod Callers
