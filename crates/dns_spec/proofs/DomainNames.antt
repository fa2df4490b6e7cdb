-- Names: their wire forms, their order, and which names are at or below others.
pub mod NameLaws
pub mod WireNames
pub mod SmallOctets
