pub mod Entering
pub mod Sights
pub mod Answers
pub mod Asking
