pub mod Refusals
pub mod Words
pub mod Plane
pub mod Numbers
