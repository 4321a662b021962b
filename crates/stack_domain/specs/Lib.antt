pub mod Stack
pub mod Sets
pub mod Stores
pub mod Numbers
