-- Laws that rest on the table of specs/Utf8.antt.
pub mod Utf8Laws
pub mod SequenceLaws
pub mod ValidLaws
