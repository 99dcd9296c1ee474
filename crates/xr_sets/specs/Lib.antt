pub mod NewActions
