mod WordsLaws
mod LineLaws
