pub mod PartLaws
mod AnsweredLaws
