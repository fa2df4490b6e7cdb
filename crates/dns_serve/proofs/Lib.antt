pub mod Framing
pub mod Readings
pub mod Replies
pub mod Sessions
pub mod Taking
pub mod OneTurn
