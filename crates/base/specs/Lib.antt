pub mod Hexadecimal
pub mod Padded
pub mod ShortBytes
