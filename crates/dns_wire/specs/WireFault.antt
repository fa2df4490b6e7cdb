-- The numbers of the faults of messages.
use Rattle.std.specs.Prelude.{ℕ, ◌≢◌}
use Rattle.dns_wire.specs.declared.wire_fault.WireFault.{WireFault}
use Rattle.dns_wire.specs.declared.wire_fault.WireFault.TheVariants.{Short, ReservedLabel, BadPointer, LongName, BadData, Trailing, NoMemory}

abbrev pub fault_code : WireFault → ℕ
fault_code fault =
    elim fault [
      | Short ↦ 1
      | ReservedLabel ↦ 2
      | BadPointer ↦ 3
      | LongName ↦ 4
      | BadData ↦ 5
      | Trailing ↦ 6
      | NoMemory ↦ 7
    ]

-- `Said` holds, unless the fault is that allocation failed
abbrev pub UnlessNoMemory : WireFault → Type 0 → Type 0
UnlessNoMemory fault Said = fault ≢ NoMemory → Said
