pub mod WholeText
pub mod Continued
pub mod OneText
pub mod Front
