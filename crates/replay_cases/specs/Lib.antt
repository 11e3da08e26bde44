pub mod TallyWords
pub mod Found
pub mod Counted
