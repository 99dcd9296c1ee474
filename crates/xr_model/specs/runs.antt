-- Runs: the calls of a script, the round robin, and the lists of what was done.
pub mod NameValues
pub mod Scripts
pub mod Robin
pub mod Lists
