-- The printed zone and the report: what is printed means the zone again.
pub mod PrintedLines
pub mod PrintedMeaning
pub mod PrintedZone
pub mod PrintedAgain
pub mod OrderedReport
