-- What is read of an input for its first line, and what is kept of that line.
use Rattle.std.specs.Prelude.{⊤, ◌≡◌, ◌≤◌, ◌++◌, length, take, MatchOption, Option}
use Rattle.std.specs.Io.KnownBytes.{Consumes}
use Rattle.dns_spec.specs.Names.{Octets}
use Rattle.dns_spec.specs.DataText.{hex_octets}
use Rattle.dns_spec.specs.Lines.{lines, line_ends, line_message}
use Rattle.dns_spec.specs.MessageLines.{first_of}

-- what is kept of a line: its front, up to one digit more than the longest message has, so that the
-- front of a longer line spells no octets
abbrev pub kept_line : Octets → Octets
kept_line = take 131071

-- The line goes on: no octet of it is an LF, and it may still be a message.
pub record GoesOn (x : Octets) : Type 0 where
  pub unended : line_ends x ≡ 0
  pub short : length x ≤ 131070

-- the line goes on, and all of it is kept
pub record IsFront (x l : Octets) : Type 0 where
  pub goes_on : GoesOn x
  pub kept : l ≡ kept_line x

-- what is kept decides the first line's message for every input that begins with these octets
abbrev pub KeepsFirst : Octets → Octets → Type 0
KeepsFirst x l = (y : Octets) → hex_octets l ≡ line_message (first_of (lines (x ++ y)))

-- the source has given octets in which the line goes on
pub record HasReadFront (unread left : Option Octets) : Type 0 where
  pub given : Octets
  pub read : Consumes unread left given
  pub goes_on : GoesOn given

-- The source has given the first line of an input; if the source's octets are known, the input is
-- all of them. Before the last piece the line went on.
pub record HasReadLine (unread left : Option Octets) (input : Octets) : Type 0 where
  pub before : Octets
  pub piece : Octets
  pub rest : Octets
  pub input_is : input ≡ (before ++ piece) ++ rest
  pub is_all : MatchOption unread ⊤ (λ all. all ≡ input)
  pub read : Consumes unread left (before ++ piece)
  pub goes_on : GoesOn before
  pub at_once : length piece ≤ 65536

-- the source has given the first line of an input, and what is kept decides the line's message
pub record ReadsFirst (unread left : Option Octets) (l : Octets) : Type 0 where
  pub input : Octets
  pub read : HasReadLine unread left input
  pub message_is : hex_octets l ≡ line_message (first_of (lines input))
