pub mod Common
mod LineParts
mod LastArguments
mod ClapOptions
mod CheckedZone
mod PrintedLines
mod Listing
pub mod LineDigits
pub mod KeptLines
pub mod LineRuns
pub mod LineReads
