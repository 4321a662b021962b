pub mod CarriedText
pub mod FirstLine
pub mod FieldReading
pub mod LineReading
pub mod InOrder
pub mod Following
pub mod Laws
