pub mod Fields
pub mod FieldTests
pub mod Spells
pub mod Kinds
pub mod FirstFault
pub mod Decoded
pub mod FaultText
