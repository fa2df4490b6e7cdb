-- Worked examples, computed from the definitions. `Zones` contains their zones and queries.
pub mod Zones
pub mod Readings
pub mod FaultRows
pub mod CheckRows
pub mod CommandRows
pub mod DataRows
pub mod FileRows
pub mod MessageLineRows
pub mod MessageRows
pub mod ReportRows
pub mod Rows
pub mod TextRows
pub mod TokenRows
pub mod WordRows
