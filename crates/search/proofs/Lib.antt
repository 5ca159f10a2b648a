pub mod Queueing
pub mod Steps
pub mod Collecting
pub mod Outcomes
