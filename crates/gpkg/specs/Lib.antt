-- The theorem of document 02's slip 6.
pub mod PreviewTells
-- Laws.
pub mod RefusalLaws
