pub mod Items
pub mod KnownNames
pub mod LastMember
