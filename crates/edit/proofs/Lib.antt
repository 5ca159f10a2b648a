pub mod Opens
pub mod Sought
pub mod Below
pub mod Spread
pub mod Shows
pub mod Changed
pub mod Rehearsed
