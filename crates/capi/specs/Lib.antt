pub mod Numbers
pub mod LengthWords
