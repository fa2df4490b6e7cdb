-- Definitions that the contracts of the programs' functions use.
pub mod Load
pub mod Status
pub mod Stops
pub mod Arguments
pub mod ClapCommands
pub mod Checked
pub mod Listed
pub mod Sockets
pub mod Turns
pub mod FirstLine
pub mod Printed
pub mod Parts
pub mod Exchanges
pub mod ExchangeForm
