-- What a session over a stream has read and written when it ends or fails.
use Rattle.std.specs.Prelude.{⊤, ◌≡◌, ℕ, ◌+◌, ◌≤◌, ◌<◌, ◌⊎◌, List, [], ◌∷◌, ◌++◌, length, take}
use Rattle.std.specs.Prelude.{MatchOption, Option, Result, Ok, Err}
use Rattle.std.specs.List.{flat_map}
use Rattle.std.specs.Io.KnownBytes.{Appends, Consumes, IsAtEnd}
use Rattle.dns_spec.specs.Names.{Octets}
use Rattle.dns_spec.specs.Records.{ZoneContents}
use Rattle.dns_spec.specs.Query.{most_over_tcp}
use Rattle.dns_spec.specs.Reply.{octets_of}
use Rattle.dns_spec.specs.Stream.{frame, frames, IsCutFrame, reply_frame, replies}
use Rattle.dns_name.specs.Counted.{Counted}
use Rattle.dns_serve.specs.declared.turn_fault.StreamFault.{StreamFault}
use Rattle.dns_serve.specs.declared.turn_fault.StreamFault.TheVariants.{SourceFailed, SinkFailed, Cut}

-- the reply of a zone over TCP, of at most 65,535 octets (RFC 1035 4.2.2)
abbrev pub reply_over_tcp : ZoneContents → Octets → Option Octets
reply_over_tcp z m = octets_of z m most_over_tcp

-- A session: the unread octets of its source and the contents of its sink, before and after, if
-- they are known.
pub record Session : Type 0 where
  pub unread : Option Octets
  pub left : Option Octets
  pub held : Option Octets
  pub holds : Option Octets

-- the session of a source and a sink, each before and after it
abbrev pub session : {R W : Type 0} → (R → Option Octets) → (W → Option Octets)
    → Counted R → Counted R → Counted W → Counted W → Session
session remaining contents source source_then sink sink_then = record {
  unread = remaining source.device;
  left = remaining source_then.device;
  held = contents sink.device;
  holds = contents sink_then.device;
}

-- The messages are the contents of the first frames of the source, at most `most`, if its octets
-- are known.
abbrev pub AreFrames : Option Octets → ℕ → List Octets → Type 0
AreFrames known most ms = MatchOption known ⊤ (λ x. ms ≡ frames most x)

-- RFC 1035 4.2.2: all frames were read, up to `most` or to the end of the source, and the replies
-- to their messages were written.
pub record HasServed (reply : Octets → Option Octets) (most : ℕ) (s : Session) (n : ℕ)
    : Type 0 where
  pub messages : List Octets
  pub are_frames : AreFrames s.unread most messages
  pub count : length messages ≡ n
  pub read : Consumes s.unread s.left (flat_map frame messages)
  pub written : Appends s.held s.holds (replies reply messages)
  pub over : (n ≡ most) ⊎ IsAtEnd s.left

-- The source ended inside a frame, before `most` messages were read. The replies to all messages
-- that were read were written.
pub record WasCut (reply : Octets → Option Octets) (most : ℕ) (s : Session) : Type 0 where
  pub messages : List Octets
  pub part : Octets
  pub are_frames : AreFrames s.unread most messages
  pub fewer : length messages < most
  pub read : Consumes s.unread s.left (flat_map frame messages ++ part)
  pub cut : IsCutFrame part
  pub over : IsAtEnd s.left
  pub written : Appends s.held s.holds (replies reply messages)

-- The source failed. The replies to all complete messages that it had given were written.
pub record WasBroken (reply : Octets → Option Octets) (most : ℕ) (s : Session) : Type 0 where
  pub messages : List Octets
  pub given : Octets
  pub are_frames : messages ≡ frames most given
  pub fewer : length messages < most
  pub read : Consumes s.unread s.left given
  pub written : Appends s.held s.holds (replies reply messages)

-- The sink failed. The replies to all messages but the last one read were written, and a prefix of
-- the reply to the last; nothing after it was read.
pub record WasRefused (reply : Octets → Option Octets) (most : ℕ) (s : Session) : Type 0 where
  pub earlier : List Octets
  pub message : Octets
  pub taken : ℕ
  pub are_frames : AreFrames s.unread (length earlier + 1) (earlier ++ message ∷ [])
  pub within : length earlier + 1 ≤ most
  pub read : Consumes s.unread s.left (flat_map frame (earlier ++ message ∷ []))
  pub written : Appends s.held s.holds
      (replies reply earlier ++ take taken (reply_frame (reply message)))

-- what a session has done, by its result
abbrev pub SessionOf : (Octets → Option Octets) → ℕ → Session → Result ℕ StreamFault → Type 0
SessionOf reply most s (Ok n) = HasServed reply most s n
SessionOf reply most s (Err SourceFailed) = WasBroken reply most s
SessionOf reply most s (Err SinkFailed) = WasRefused reply most s
SessionOf reply most s (Err Cut) = WasCut reply most s

-- The failure counts of the source and of the sink after a session: one more if and only if a call
-- of that device failed.
abbrev pub source_failures_after : {A : Type 0} → ℕ → Result A StreamFault → ℕ
source_failures_after count (Err SourceFailed) = count + 1
source_failures_after count result = count

abbrev pub sink_failures_after : {A : Type 0} → ℕ → Result A StreamFault → ℕ
sink_failures_after count (Err SinkFailed) = count + 1
sink_failures_after count result = count
