-- What the words of a command line ask.
pub mod Words
