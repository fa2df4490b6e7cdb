-- The numbers of the faults of a name's text.
use Rattle.std.specs.Prelude.{ℕ}
use Rattle.dns_name.specs.declared.text.NameFault.{NameFault}
use Rattle.dns_name.specs.declared.text.NameFault.TheVariants.{EmptyLabel, LabelTooLong, NameTooLong, BadEscape}

abbrev pub fault_code : NameFault → ℕ
fault_code EmptyLabel = 1
fault_code LabelTooLong = 2
fault_code NameTooLong = 3
fault_code BadEscape = 4
