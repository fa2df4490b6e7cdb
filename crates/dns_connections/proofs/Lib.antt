pub mod Closing
pub mod Serving
