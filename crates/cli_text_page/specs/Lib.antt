pub mod Escaping
pub mod Page
