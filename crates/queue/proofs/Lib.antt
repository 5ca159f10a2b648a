pub mod Sorting
pub mod Sifting
pub mod Popping
pub mod Building
pub mod Keeping
pub mod Ascending
