-- What a report and a summary print of a run.
pub mod RunEnding
pub mod Report
pub mod Summary
pub mod ReportLines
pub mod ReportValues
