pub mod BytesLeft
