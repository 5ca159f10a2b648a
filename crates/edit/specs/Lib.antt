pub mod Showing
pub mod Laws
pub mod Rehearsal
