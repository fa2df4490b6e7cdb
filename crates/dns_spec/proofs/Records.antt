-- Records: their canonical order, and lists without duplicates.
pub mod RecordOrder
pub mod SameRecords
