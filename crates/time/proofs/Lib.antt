-- The theorems of demands 2 and 3, at work on bytes, and the smallest cases outside each hypothesis.
pub mod ReadsTruth
pub mod Theorems
pub mod Instances
pub mod Examples
-- Laws that rest on the definitions that must-fail/ edits.
pub mod ConverseLaws
pub mod ComplementLaws
pub mod ThirteenLaws
pub mod OgcLaws
pub mod FilterReadsLaws
