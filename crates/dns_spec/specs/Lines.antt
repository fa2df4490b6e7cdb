-- The lines of an input, the message in a line, and the line that is written for it.
use Rattle.std.specs.Prelude.{ℕ, Bool, List, [], ◌∷◌, ◌++◌, length, take, filter, nat_le, ◌==◌, if◌then◌else◌, codes}
use Rattle.std.specs.Prelude.{Option, None, Some}
use Rattle.std.specs.Option.{is_some}
use Rattle.std.specs.List.{flat_map, list_all}
use Rattle.dns_spec.specs.Names.{Octets}
use Rattle.dns_spec.specs.DataText.{hex_octets}
use Rattle.dns_spec.specs.WrittenText.{hex_text}

-- puts an octet in front of the first line, or makes it the only line if there are no lines
abbrev pub begin_line : ℕ → List Octets → List Octets
begin_line o [] = (o ∷ []) ∷ []
begin_line o (l ∷ ls) = (o ∷ l) ∷ ls

-- The lines of an input, each without its LF. Octets after the last LF are the last line.
unfoldable pub lines : Octets → List Octets
lines [] = []
lines (o ∷ x) = if o == 10 then [] ∷ lines x else begin_line o (lines x)

-- the number of LFs in the input
abbrev pub line_ends : Octets → ℕ
line_ends x = length (filter (λ o. o == 10) x)

-- the lines that end with LF
abbrev pub ended_lines : Octets → List Octets
ended_lines x = take (line_ends x) (lines x)

-- The message in a line, if the line is hex digits of either case, two per octet. RFC 1035 4.2.2: a
-- message has at most 65,535 octets, so its line has at most 131,070 digits.
abbrev pub line_message : Octets → Option Octets
line_message l = if nat_le (length l) 131070 then hex_octets l else None

-- the line for a reply, or `none` if there is no reply
abbrev pub reply_line : Option Octets → Octets
reply_line None = codes "none\n"
reply_line (Some r) = hex_text r ++ codes "\n"

-- the line that is written for a line of the input, by the message in that line, if there is one;
-- `reply` gives the reply to a message
abbrev pub message_answer : (Octets → Option Octets) → Option Octets → Octets
message_answer reply None = codes "bad hex\n"
message_answer reply (Some m) = reply_line (reply m)

-- what is written for the lines of an input: one line for each
abbrev pub line_answers : (Octets → Option Octets) → List Octets → Octets
line_answers reply = flat_map (λ l. message_answer reply (line_message l))

-- every line is a message
abbrev pub are_messages : List Octets → Bool
are_messages = list_all (λ l. is_some (line_message l))
