pub mod Failures
pub mod Neighbours
pub mod Lists
pub mod Walking
pub mod Rising
