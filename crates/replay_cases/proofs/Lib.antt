pub mod BlankLaws
mod CountedLaws
