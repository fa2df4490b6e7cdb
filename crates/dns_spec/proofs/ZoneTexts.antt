-- Texts of zone files: their tokens and entries, and that each text has one meaning.
pub mod TextTokens
pub mod ReadTokens
pub mod ReadOctets
pub mod ReadRecords
pub mod ReadWords
pub mod GivenRecords
pub mod OneMeaning
pub mod SomeMeaning
pub mod Beginnings
pub mod BeginningsMean
pub mod EntryReading
pub mod LineCounts
pub mod FirstFault
pub mod NoFault
pub mod OneListing
