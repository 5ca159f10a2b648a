pub mod Same
pub mod Boxes
pub mod Present
