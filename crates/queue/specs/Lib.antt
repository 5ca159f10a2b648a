pub mod Order
pub mod Shape
pub mod Calls
pub mod Keys
pub mod Numbers
