-- What the printer of a message has read and written, by its result.
use Rattle.std.specs.Prelude.{◌≡◌, ℕ, Bool, ◌++◌, codes, decimal, Result, Err}
use Rattle.dns_spec.specs.Names.{Octets}
use Rattle.dns_spec.specs.MessageLines.{PrintsInput}
use Rattle.dns_serve.specs.Streams.{Session}
use Rattle.dns_tools.specs.declared.stop.Stop.{Stop}
use Rattle.dns_tools.specs.declared.stop.Stop.TheVariants.{Memory, Source}
use Rattle.dns_tools.specs.Checked.{ReportedAs}
use Rattle.dns_tools.specs.FirstLine.{HasReadFront, HasReadLine}

-- the line for a fault
abbrev pub fault_line : ℕ → Octets
fault_line n = codes "fault " ++ decimal n ++ codes "\n"

-- The first line of an input was read, and what is printed for that input was written, or a prefix
-- of it.
pub record HasPrinted (s : Session) (result : Result Bool Stop) : Type 0 where
  pub input : Octets
  pub read : HasReadLine s.unread s.left input
  pub written : ReportedAs (PrintsInput input) result s.held s.holds

abbrev pub PrintedAs : Session → Result Bool Stop → Type 0
PrintedAs s (Err Source) = HasReadFront s.unread s.left × (s.holds ≡ s.held)
PrintedAs s (Err Memory) = s.holds ≡ s.held
PrintedAs s result = HasPrinted s result
