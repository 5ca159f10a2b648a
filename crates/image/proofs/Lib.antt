pub mod Written
pub mod Scanning
pub mod Queueing
pub mod Chaining
pub mod Showing
pub mod Slotting
