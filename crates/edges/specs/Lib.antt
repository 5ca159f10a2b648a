pub mod Chain
pub mod Linked
