pub mod SessionChanges
