-- What the calls of a source give to a reader of one frame.
use Rattle.std.specs.Prelude.{◌≡◌, ◌<◌, [], ◌^◌, Option, None, Result, Ok, Err, Bool, true, false, length}
use Rattle.std.specs.Io.KnownBytes.{Consumes, IsAtEnd}
use Rattle.dns_spec.specs.Names.{Octets}
use Rattle.dns_spec.specs.Stream.{frame, first_frame, IsCutFrame}
use Rattle.dns_serve.specs.Framing.{FrameState, HasCome}
use Rattle.dns_serve.specs.declared.turn_fault.StreamFault.{StreamFault}
use Rattle.dns_serve.specs.declared.turn_fault.StreamFault.TheVariants.{SourceFailed, SinkFailed, Cut}

-- a message after its length, which the frame holds
pub record GivesMessage (old new : Option Octets) (f : FrameState) : Type 0 where
  pub message : Octets
  pub consumed : Consumes old new (frame message)
  pub short : length message < 2 ^ 16
  pub has_come : HasCome f (frame message)

-- nothing, because the source is at its end
pub record GivesNothing (old new : Option Octets) : Type 0 where
  pub consumed : Consumes old new []
  pub over : IsAtEnd new

-- the beginning of a frame, at which the source ends
pub record GivesPart (old new : Option Octets) : Type 0 where
  pub part : Octets
  pub consumed : Consumes old new part
  pub cut : IsCutFrame part
  pub no_frame : first_frame part ≡ None
  pub over : IsAtEnd new

-- octets that do not begin with a complete frame, after which the source failed
pub record GivesBeginning (old new : Option Octets) : Type 0 where
  pub given : Octets
  pub consumed : Consumes old new given
  pub no_frame : first_frame given ≡ None

-- The result of reading a frame: whether there was one before the end of the source, or why reading
-- failed.
abbrev pub FrameRead : Option Octets → Option Octets → FrameState → Result Bool StreamFault → Type 0
FrameRead old new f (Ok true) = GivesMessage old new f
FrameRead old new f (Ok false) = GivesNothing old new
FrameRead old new f (Err SourceFailed) = GivesBeginning old new
FrameRead old new f (Err SinkFailed) = ⊥
FrameRead old new f (Err Cut) = GivesPart old new
