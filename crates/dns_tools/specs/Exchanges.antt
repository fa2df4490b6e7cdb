-- What a run over lines has read and written, at its end and at each point before.
use Rattle.std.specs.Prelude.{⊤, ◌≡◌, ◌^◌, ◌-◌, ◌<◌, ◌≤◌, Bool, true}
use Rattle.std.specs.Prelude.{List, [], ◌++◌, length, take}
use Rattle.std.specs.Prelude.{MatchOption, Option, Result, Ok, Err}
use Rattle.std.specs.Io.KnownBytes.{Appends, Consumes}
use Rattle.dns_spec.specs.Names.{Octets}
use Rattle.dns_spec.specs.Records.{ZoneContents}
use Rattle.dns_spec.specs.Reply.{octets_of}
use Rattle.dns_spec.specs.Lines.{lines, line_ends, ended_lines, line_answers, are_messages}
use Rattle.dns_name.specs.Counted.{AppendsBeginning}
use Rattle.dns_answer.specs.declared.reply.Limit.{Limit}
use Rattle.dns_answer.specs.Limits.{limit_of}
use Rattle.dns_serve.specs.Streams.{Session}
use Rattle.dns_tools.specs.FirstLine.{kept_line}
use Rattle.dns_tools.specs.declared.stop.Stop.{Stop}
use Rattle.dns_tools.specs.declared.stop.Stop.TheVariants.{Memory, Source, Sink}

-- the reply of a zone, of at most as many octets as the limit allows
abbrev pub reply_within : Limit → ZoneContents → Octets → Option Octets
reply_within limit z m = octets_of z m (limit_of limit)

-- The input of a run: the rest of its source, up to the greatest number of octets.
abbrev pub IsInput : Option Octets → Octets → Type 0
IsInput known x = MatchOption known ⊤ (λ all. x ≡ take (2 ^ 64 - 1) all)

-- The input was read, and each of its lines was answered.
pub record HasAnsweredLines (reply : Octets → Option Octets) (s : Session) (passes : Bool)
    : Type 0 where
  pub input : Octets
  pub is_input : IsInput s.unread input
  pub read : Consumes s.unread s.left input
  pub written : Appends s.held s.holds (line_answers reply (lines input))
  pub passes_is : passes ≡ are_messages (lines input)

-- The source failed. Each line that had ended by then was answered.
pub record HasAnsweredEnded (reply : Octets → Option Octets) (s : Session) : Type 0 where
  pub given : Octets
  pub fewer : length given < 2 ^ 64 - 1
  pub read : Consumes s.unread s.left given
  pub written : Appends s.held s.holds (line_answers reply (ended_lines given))

-- known octets grew, possibly by nothing
abbrev pub Grows : Option Octets → Option Octets → Type 0
Grows old new = (more : Octets) × Appends old new more

-- Octets were read piece by piece, and all lines that had ended before the last piece were
-- answered before it was read.
pub record KeepsUp (reply : Octets → Option Octets) (held holds : Option Octets) (given : Octets)
    : Type 0 where
  pub before : Octets
  pub last : Octets
  pub parts : given ≡ before ++ last
  pub piece : length last ≤ 65536
  pub more : Octets
  pub written : Appends held holds (line_answers reply (ended_lines before) ++ more)

-- The sink failed. A prefix of the answers was written, and at most one piece was read after the
-- lines that were all answered.
pub record HasBegunAnswers (reply : Octets → Option Octets) (s : Session) : Type 0 where
  pub input : Octets
  pub is_input : IsInput s.unread input
  pub written : AppendsBeginning s.held s.holds (line_answers reply (lines input))
  pub given : Octets
  pub read : Consumes s.unread s.left given
  pub keeps_up : KeepsUp reply s.held s.holds given

-- what a run over lines has done, by its result
abbrev pub LinesAnswered : (Octets → Option Octets) → Session → Result Bool Stop → Type 0
LinesAnswered reply s (Ok passes) = HasAnsweredLines reply s passes
LinesAnswered reply s (Err Source) = HasAnsweredEnded reply s
LinesAnswered reply s (Err Sink) = HasBegunAnswers reply s
LinesAnswered reply s (Err Memory) = (s.left ≡ s.unread) × (s.holds ≡ s.held)

-- What is kept of an input: the front of the unfinished line, and whether all earlier lines are
-- messages.
pub record Kept : Type 0 where
  pub line : Octets
  pub passes : Bool

-- nothing was read
pub record IsFresh (k : Kept) : Type 0 where
  pub line : k.line ≡ []
  pub passes : k.passes ≡ true

-- The lines that have ended in the input so far were answered, and the front of the next one is
-- kept.
pub record Progress (reply : Octets → Option Octets) (held holds : Option Octets) (x : Octets)
    (k : Kept) : Type 0 where
  pub ended : List Octets
  pub front : Octets
  pub same : (y : Octets) → lines (x ++ y) ≡ ended ++ lines (front ++ y)
  pub none_ended : line_ends front ≡ 0
  pub count : length ended ≡ line_ends x
  pub kept : k.line ≡ kept_line front
  pub written : Appends held holds (line_answers reply ended)
  pub passes_is : k.passes ≡ are_messages ended

-- A prefix of the answers to any input that begins with these octets was written.
abbrev pub Begun : (Octets → Option Octets) → Option Octets → Option Octets → Octets → Type 0
Begun reply held holds x =
    (y : Octets) → AppendsBeginning held holds (line_answers reply (lines (x ++ y)))
