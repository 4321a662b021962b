pub mod Keys
pub mod NoTable
pub mod RowsSay
pub mod TextsAt
pub mod Untold
pub mod Usual
pub mod Written
