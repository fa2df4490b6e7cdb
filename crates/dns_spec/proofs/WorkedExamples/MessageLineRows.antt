-- What is printed for inputs, octet by octet, computed from the definitions.
use Rattle.dns_spec.proofs.Common.{DnsMessage, None, Octets, Option, PrintsInput, PrintsMessage, Some, [], are_messages, codes, cut, data_text, decimal, digits, ended_lines, false, fields_at, hex_octets, inl, inr, labels_from, line_answers, line_message, lines, lit<, lit≤, message_at, message_text, name_at, octet_text, refl, run, runs_before, several, true, ℕ, ◌++◌, ◌∷◌, ◌≡◌, ◌≤◌}
use Rattle.dns_spec.specs.MessageFaults.{MessageFault, stopped}
use Rattle.dns_spec.proofs.WorkedExamples.Zones.{hex}
use Rattle.dns_spec.proofs.WorkedExamples.MessageRows.{address_digits, address_message}

-- what is printed for a message, and for an input without one
abbrev Prints : Octets → Octets → Type 0
Prints input output = PrintsInput input (record { output = output; passes = true })

abbrev Refuses : Octets → Octets → Type 0
Refuses input output = PrintsInput input (record { output = output; passes = false })

-- the digits of a reply in which the owner of the answer is a pointer to itself
abbrev pointer_digits : Octets
pointer_digits =
    codes "12348400000100010000000003777777076578616d706c650000010001"
    ++ codes "c01d0001000100000e100004c000020a"

prints_message : (l : Option Octets) (b : Octets) (m : DnsMessage) → l ≡ Some b
    → message_at b ≡ Some m → PrintsMessage l (record { output = message_text m; passes = true })
prints_message l b m is_line e = rw is_line (inl (m, e, refl))

prints_fault : (l : Option Octets) (b : Octets) (n : ℕ)
    → l ≡ Some b → message_at b ≡ None → MessageFault b n → 1 ≤ n → n ≤ 6 → PrintsMessage l
    (record { output = codes "fault " ++ decimal n ++ codes "\n"; passes = false })
prints_fault l b n is_line e fault least most =
    rw is_line (inr (e, (n, fault, least, most, refl)))

printed_rows :
    -- a reply with an address, on the first of several lines
    Prints (address_digits ++ codes "\n\nzz")
    (codes "header 1234 8400 1 1 0 0\n" ++ codes "question www.example. IN A\n"
    ++ codes "answer www.example. 3600 IN A 192.0.2.10\n")
    -- a pointer to itself: fault 3
    × Refuses pointer_digits (codes "fault 3\n")
    -- a line that is not a message
    × Refuses (codes "zz\n00") (codes "bad hex\n")
unfolding run runs_before name_at fields_at several message_at lines hex_octets octet_text
    data_text labels_from cut digits
printed_rows = (
  prints_message (line_message address_digits) (hex address_digits) address_message refl refl,
  prints_fault (line_message pointer_digits) (hex pointer_digits) 3 refl refl
      (stopped 29 3 refl (lit< tt)) (lit≤ tt) (lit≤ tt),
  refl,
)

-- the lines of an input, and what is written for them
line_rows :
    (lines (codes "ab\n\nc") ≡ codes "ab" ∷ [] ∷ codes "c" ∷ [])
    × (ended_lines (codes "ab\n\nc") ≡ codes "ab" ∷ [] ∷ [])
    -- digits may be in either case, but their number is even; other octets, such as CR, are not
    -- allowed
    × (line_message (codes "0aFf") ≡ Some (10 ∷ 255 ∷ []))
    × (line_message (codes "0aF") ≡ None)
unfolding lines hex_octets
line_rows = search []

-- the reply to a message is the message; the empty message gets no reply
echo : Octets → Option Octets
echo [] = None
echo (o ∷ m) = Some (o ∷ m)

unfoldable answers : Octets → Octets
unfolding lines hex_octets echo
answers x = line_answers echo (lines x)

all_answered_rows :
    (answers (codes "0aFF\n\n0a\r\nab") ≡ codes "0aff\nnone\nbad hex\nab\n")
    × (are_messages (lines (codes "0aFF\n\n0a\r\nab")) ≡ false)
    × (are_messages (lines (codes "0aFF\n\nab")) ≡ true)
unfolding answers lines hex_octets echo
all_answered_rows = (refl, refl, refl)
