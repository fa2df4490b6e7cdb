-- Streams: their frames and the rest.
pub mod StreamFrames
