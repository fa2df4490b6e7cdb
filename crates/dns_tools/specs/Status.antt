-- The exit status of a program.
use Rattle.std.specs.Prelude.{ℕ, Bool, true, false, if◌then◌else◌, Result, Ok, Err}
use Rattle.clap.specs.declared.error.kind.ErrorKind.{ErrorKind}
use Rattle.clap.specs.declared.error.kind.ErrorKind.TheVariants.{OutOfMemory}
use Rattle.dns_tools.specs.declared.stop.Stop.{Stop}
use Rattle.dns_tools.specs.declared.stop.Stop.TheVariants.{Memory, Source, Sink}
use Rattle.dns_tools.specs.declared.stop.FaultText.{FaultText}
use Rattle.dns_tools.specs.declared.stop.FaultText.TheVariants.{NoMemory, Usage, SourceFailed, SinkFailed}

-- 0 if all was well, 1 if the input has a fault, 2 if the program could not finish
abbrev pub status_of : {E : Type 0} → Result Bool E → ℕ
status_of (Ok true) = 0
status_of (Ok false) = 1
status_of (Err e) = 2

-- the diagnostic for a run that stopped
abbrev pub fault_text : Stop → FaultText
fault_text Memory = NoMemory
fault_text Source = SourceFailed
fault_text Sink = SinkFailed

-- the diagnostic for arguments that `clap` refuses
abbrev pub text_of_kind : ErrorKind → FaultText
text_of_kind OutOfMemory = NoMemory
text_of_kind _ = Usage

-- how a program ends: with a status, or with a diagnostic
abbrev pub end_of : Result Bool Stop → Result ℕ FaultText
end_of (Ok passes) = Ok (status_of {E = Stop} (Ok passes))
end_of (Err stop) = Err (fault_text stop)

-- the status of a server after its last turn
abbrev pub status_of_turns : Bool → ℕ
status_of_turns are_said = if are_said then 0 else 2
