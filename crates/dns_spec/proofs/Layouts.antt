-- Layouts and sharing: a layout spells its message, and its size is the least.
pub mod MessageParts
pub mod SharedNames
pub mod SharedLayout
pub mod LayoutSize
pub mod LeastSize
pub mod GrowingSize
pub mod UnboundedSize
pub mod SameLayout
