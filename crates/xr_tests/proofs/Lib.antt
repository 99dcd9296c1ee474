pub mod Loans
pub mod Going
