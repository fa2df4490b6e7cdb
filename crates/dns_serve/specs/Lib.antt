pub mod Framing
pub mod Reads
pub mod Streams
pub mod Turns
