pub mod Exports
pub mod Findings
