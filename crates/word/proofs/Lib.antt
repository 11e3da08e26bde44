-- Laws of a word read byte by byte.
pub mod WordLaws
