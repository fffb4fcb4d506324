pub mod State
pub mod Calls
pub mod Letters
pub mod Closing
pub mod Conflicts
pub mod TakingIn
pub mod Delivery
pub mod Opening
