pub mod OneWord
pub mod Firsts
