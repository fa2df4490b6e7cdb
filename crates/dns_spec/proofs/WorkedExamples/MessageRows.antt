-- Names, queries and messages read from octets that are complete, changed or cut short, computed
-- from the definitions.
use Rattle.dns_spec.proofs.Common.{Bool, DnsMessage, DomainName, Header, List, MessageRecord, None, Octets, Some, [], absent, codes, drop, fields_at, is_some, message_at, name_at, not, pointer, query, query_read, question_at, refused_with, replicate, run, runs_before, several, take, true, wire, ℕ, ◌++◌, ◌+◌, ◌∷◌, ◌≡◌}
use Rattle.dns_spec.proofs.WorkedExamples.Zones.{hex, dotted, under, example, net_192, soa_of, letters, www_query}

-- a reply with one address record, whose owner is a pointer at place 29
abbrev pub address_digits : Octets
address_digits =
    codes "12348400000100010000000003777777076578616d706c650000010001"
    ++ codes "c00c0001000100000e100004c000020a"

abbrev address_reply : Octets
address_reply = hex address_digits

-- a name error, with pointers at the places 30, 45 and 58; their runs begin at 30, 42 and 47
abbrev pub error_digits : Octets
error_digits =
    codes "123484030001000000010000046e6f7065076578616d706c650000010001"
    ++ codes "c011000600010000012c0026026e73c0110a686f73746d6173746572c011"
    ++ codes "0000000100001c2000000384001275000000012c"

abbrev error_reply : Octets
error_reply = hex error_digits

-- the octets with a pointer to place p at place i
abbrev pointing : Octets → ℕ → ℕ → Octets
pointing b i p = take i b ++ pointer p ++ drop (i + 2) b

unfoldable spells_nothing : Octets → Bool
unfolding run runs_before name_at fields_at several message_at
spells_nothing b = not (is_some (message_at b))

-- the messages that the two replies spell, with uncompressed data
abbrev message_of : ℕ → Octets → List MessageRecord → List MessageRecord → DnsMessage
message_of flags cs answers authorities = record {
  header = record { id = 4660; flags = flags };
  questions = record { qname = under cs; qtype = 1; qclass = 1 } ∷ [];
  answers = answers;
  authorities = authorities;
  additionals = [];
}

abbrev record_of : DomainName → ℕ → ℕ → Octets → MessageRecord
record_of n t ttl d = record { owner = n; rtype = t; rclass = 1; ttl = ttl; rdata = d }

abbrev pub address_message : DnsMessage
address_message =
    message_of 33792 (codes "www") (record_of (under (codes "www")) 1 3600 (net_192 10) ∷ []) []

abbrev pub error_message : DnsMessage
error_message =
    let soa = soa_of (under (codes "ns")) (under (codes "hostmaster")) 1 7200 900 1209600 300 in
    message_of 33795 (codes "nope") [] (record_of example 6 300 soa ∷ [])

message_rows :
    (message_at address_reply ≡ Some address_message)
    × (message_at error_reply ≡ Some error_message)
    × (spells_nothing (pointing address_reply 29 29) ≡ true)
    × (spells_nothing (address_reply ++ 0 ∷ []) ≡ true)
unfolding spells_nothing run runs_before name_at fields_at several message_at
message_rows = search []

-- octets after a header
abbrev message : Octets → Octets
message os = replicate 12 0 ++ os

-- `www` at place 12; `x` and a pointer to 12 at place 17; a pointer to 17 at place 21
abbrev chained : Octets
chained = message (hex (codes "0377777700 0178c00c c011"))

reading_rows :
    (name_at chained 21 ≡ Some (dotted (codes "x.www"), 23))
    -- a pointer to the run that contains it
    × (name_at (message (hex (codes "0161c00c"))) 12 ≡ None)
unfolding run runs_before name_at
reading_rows = search []

-- a name of 255 octets; and a label in front of it, which makes the name too long
abbrev longest : DomainName
longest = letters 63 ∷ letters 63 ∷ letters 63 ∷ letters 61 ∷ []

abbrev and_longer : Octets
and_longer = message (wire longest ++ hex (codes "0161c00c"))

of_255_octets_rows :
    (name_at and_longer 12 ≡ Some (longest, 267))
    × (name_at and_longer 267 ≡ None)
unfolding run runs_before name_at
of_255_octets_rows = search []

-- the header with these flags and the ID of the queries below
abbrev head : ℕ → Header
head flags = record { id = 4660; flags = flags }

query_rows :
    -- the header and the question are as received
    (query_read www_query
    ≡ query (head 0) (record { qname = dotted (codes "www.example"); qtype = 1; qclass = 1 }))
    -- fewer octets than a header, and a response
    × (query_read (replicate 11 0) ≡ absent)
    -- another opcode gives RCODE 4, and the opcode stays (RFC 1035 4.1.1)
    × (query_read (hex (codes "123410000000000000000000")) ≡ refused_with (head 36868))
    × (query_read (www_query ++ 0 ∷ []) ≡ refused_with (head 32769))
unfolding query_read question_at run runs_before name_at
query_rows = search []
