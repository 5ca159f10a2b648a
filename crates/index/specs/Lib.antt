pub mod Table
pub mod Laws
pub mod Opening
pub mod Frames
