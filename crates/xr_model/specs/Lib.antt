-- What must be believed, by what a reader looks for.
pub mod machine
pub mod runs
pub mod scenario
pub mod device_text
pub mod report
pub mod command_line
pub mod laws
