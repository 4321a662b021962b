-- That a plain program passes.
pub mod Insns
pub mod Shape
pub mod Known
pub mod List
pub mod Parts
pub mod Goes
