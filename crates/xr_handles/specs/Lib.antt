pub mod HandleRows
pub mod Numbers
