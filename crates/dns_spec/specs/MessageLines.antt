-- The lines in which a message is printed, and what is printed for an input.
use Rattle.std.specs.Prelude.{◌≡◌, ℕ, ◌≤◌, ◌⊎◌, true, false, List, [], ◌∷◌, ◌++◌, length, ◌==◌, if◌then◌else◌, codes, decimal}
use Rattle.std.specs.Prelude.{Option, None, Some}
use Rattle.std.specs.List.{flat_map}
use Rattle.dns_spec.specs.Names.{Octets}
use Rattle.dns_spec.specs.NameText.{name_text}
use Rattle.dns_spec.specs.Data.{class_in}
use Rattle.dns_spec.specs.TypeText.{type_text}
use Rattle.dns_spec.specs.WrittenText.{hex_text, data_text}
use Rattle.dns_spec.specs.Report.{Report}
use Rattle.dns_spec.specs.MessageFaults.{MessageFault}
use Rattle.dns_spec.specs.Reading.{MessageQuestion, MessageRecord, DnsMessage, Spells, NoMessage}
use Rattle.dns_spec.specs.Layout.{octets16}
use Rattle.dns_spec.specs.Lines.{lines, line_message}

-- a count after a space; and the line for the header (RFC 1035 4.1.1): ID and flags in hex digits,
-- and the numbers of questions and of answer, authority and additional records
abbrev pub count_text : ℕ → Octets
count_text n = codes " " ++ decimal n

abbrev pub header_line : DnsMessage → Octets
header_line m =
    codes "header " ++ hex_text (octets16 m.header.id)
    ++ codes " " ++ hex_text (octets16 m.header.flags)
    ++ count_text (length m.questions) ++ count_text (length m.answers)
    ++ count_text (length m.authorities) ++ count_text (length m.additionals) ++ codes "\n"

-- a class between spaces; RFC 3597 5: a class other than IN is written by its number
abbrev pub class_text : ℕ → Octets
class_text c = if c == class_in then codes " IN " else codes " CLASS" ++ decimal c ++ codes " "

abbrev pub question_line : MessageQuestion → Octets
question_line q =
    codes "question " ++ name_text q.qname ++ class_text q.qclass ++ type_text q.qtype
    ++ codes "\n"

-- The line for a record of a section. RFC 3597 5: data of a class other than IN is written in the
-- generic form, like data of type 0.
abbrev pub section_line : Octets → MessageRecord → Octets
section_line section r =
    section ++ codes " " ++ name_text r.owner ++ codes " " ++ decimal r.ttl ++ class_text r.rclass
    ++ type_text r.rtype ++ codes " "
    ++ data_text (if r.rclass == class_in then r.rtype else 0) r.rdata ++ codes "\n"

-- a line for the header, and one for each question and each record
abbrev pub message_text : DnsMessage → Octets
message_text m =
    header_line m ++ flat_map question_line m.questions
    ++ flat_map (section_line (codes "answer")) m.answers
    ++ flat_map (section_line (codes "authority")) m.authorities
    ++ flat_map (section_line (codes "additional")) m.additionals

-- What is printed for octets: the lines of the message that they spell; or, if they spell none, a
-- line with the number of their first fault, 1 to 6.
abbrev pub PrintsOctets : Octets → Report → Type 0
PrintsOctets b report =
    ((m : DnsMessage) × Spells b m
    × (report ≡ record { output = message_text m; passes = true }))
    ⊎ (NoMessage b × ((n : ℕ) × MessageFault b n × (1 ≤ n) × (n ≤ 6)
    × (report ≡ record { output = codes "fault " ++ decimal n ++ codes "\n"; passes = false })))

-- what is printed for a line that is a message in hex digits, and for any other line
abbrev pub PrintsMessage : Option Octets → Report → Type 0
PrintsMessage None report = report ≡ record { output = codes "bad hex\n"; passes = false }
PrintsMessage (Some b) report = PrintsOctets b report

-- the first of the lines, or an empty line if there are no lines
abbrev pub first_of : List Octets → Octets
first_of [] = []
first_of (l ∷ ls) = l

-- What is printed for an input; only its first line matters.
abbrev pub PrintsInput : Octets → Report → Type 0
PrintsInput x report = PrintsMessage (line_message (first_of (lines x))) report
