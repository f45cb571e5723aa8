pub mod Judgement
pub mod JudgementLaws
pub mod AdmissionLaws
pub mod AlikeLaws
pub mod EntryLaws
pub mod Coverage
pub mod CoverageLaws
