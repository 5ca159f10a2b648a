pub mod Nodes
pub mod Asked
pub mod Piles
pub mod Edits
