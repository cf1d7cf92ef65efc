pub mod Signs
pub mod OnSheets
pub mod Answers
pub mod Given
pub mod Findings
