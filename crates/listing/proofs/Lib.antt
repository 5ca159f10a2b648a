pub mod Adding
pub mod Accepting
