pub mod Counted
pub mod NameFault
pub mod TextForm
pub mod WireForm
