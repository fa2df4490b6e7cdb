-- The codes of the reasons why data is invalid.
use Rattle.std.specs.Prelude.{ℕ}
use Rattle.dns_rdata.specs.declared.rdata_fault.RdataFault.{RdataFault}
use Rattle.dns_rdata.specs.declared.rdata_fault.RdataFault.TheVariants.{WordCount, BadNumber, BadAddress, BadName, BadString, BadHex, NotOfType, NoMemory}

abbrev pub fault_code : RdataFault → ℕ
fault_code WordCount = 1
fault_code BadNumber = 2
fault_code BadAddress = 3
fault_code BadName = 4
fault_code BadString = 5
fault_code BadHex = 6
fault_code NotOfType = 7
fault_code NoMemory = 8
