pub mod Layers
pub mod Changes
pub mod Pages
pub mod Runs
pub mod Law
