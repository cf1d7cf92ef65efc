pub mod Summed
pub mod Findings
pub mod LawTold
pub mod Examples
