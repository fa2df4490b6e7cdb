-- Replies to datagrams and to streams, computed from the definitions: some whole, octet by octet,
-- others by their header, length and a distinctive part; and the sizes of replies.
use Rattle.dns_spec.proofs.Common.{Header, Item, List, MessageQuestion, None, Octets, Option, Placed, ResourceRecord, Some, ZoneContents, [], after_frames, answer, chain, chain_from, codes, cut, data_by, decide, digits, drop, extra, first_frame, frame, frames, header_octets, items, keep_longest, labels_from, layout, length, name_at, octets_by, octets_of, option_map, outcome, outcome_at, query_read, question_at, record_laid, records_by, records_octets, refl, replicate, replies, reply, reply_with, required_items, run, runs_before, size, take, type_cname, type_srv, wire, ℕ, ◌++◌, ◌+◌, ◌∷◌, ◌≡◌}
use mathlib.Core.Path.{refl}
use Rattle.dns_spec.proofs.WorkedExamples.Zones.{hex, dotted, under, entry, in_zone, addresses, query, www_query, small_zone, large_zone}

-- the octets of a reply within a limit
unfoldable within : ℕ → ZoneContents → Octets → Option Octets
unfolding labels_from cut run runs_before name_at octets_by data_by records_by
    layout size chain_from chain outcome_at outcome extra items
    required_items reply_with reply octets_of question_at query_read decide
within limit z d = octets_of z d limit

abbrev udp : ZoneContents → Octets → Option Octets
udp = within 512

abbrev tcp : ZoneContents → Octets → Option Octets
tcp = within 65535

-- the outline of a reply: its header, its length, and the k octets from place i on
abbrev outline : Option Octets → ℕ → ℕ → Option (Octets × ℕ × Octets)
outline o i k = option_map (λ b. (take 12 b, length b, take k (drop i b))) o

-- an expected reply by its hex digits: whole, and as an outline
abbrev octets : Octets → Option Octets
octets digits = Some (hex digits)

abbrev part : Octets → ℕ → Octets → Option (Octets × ℕ × Octets)
part head size digits = Some (hex head, size, hex digits)

-- the reply to a query for the address of `www`
abbrev www_reply : Octets
www_reply =
    hex (codes "123484000001000100000000"
    ++ codes "03777777076578616d706c650000010001 c00c0001000100000e100004c000020a")

-- hex digits that appear in two replies each: the name server of the zone with its address, and the
-- alias of `www`
abbrev servers : Octets
servers = codes "c00c0002000100000e100005026e73c00c c0250001000100000e100004c0000201"

abbrev to_www : Octets
to_www = codes "c00c0005000100000e10000603777777c012"

reply_rows :
    -- an address
    (udp small_zone www_query ≡ Some www_reply)
    -- a name error: the SOA with its lowered TTL
    × (udp small_zone (query (codes "nope.example") 1)
    ≡ octets (codes "123484030001000000010000 046e6f7065076578616d706c650000010001"
    ++ codes "c011000600010000012c0026 026e73c011 0a686f73746d6173746572c011 00000001 00001c20"
    ++ codes "00000384 00127500 0000012c"))
    -- a wildcard, with the name asked for as owner
    × (udp small_zone (query (codes "x.y.w.example") 16)
    ≡ octets (codes "123484000001000100000000 017801790177076578616d706c650000100001"
    ++ codes "c00c0010000100000e10000403616e79"))
    -- a referral with its glue
    × (udp small_zone (query (codes "h.sub.example") 1)
    ≡ octets (codes "123480000001000000010001 016803737562076578616d706c650000010001"
    ++ codes "c00e0002000100000e100005026e73c00e c02b0001000100000e100004c0000235"))
    -- an alias followed
    × (udp small_zone (query (codes "alias.example") 1)
    ≡ octets (codes "123484000001000200000000 05616c696173076578616d706c650000010001"
    ++ to_www ++ codes "c02b0001000100000e100004c000020a"))
    -- the question is returned as asked, with its capitals
    × (udp small_zone (query (codes "WWW.Example") 1)
    ≡ octets (codes "123484000001000100000000 03575757074578616d706c650000010001"
    ++ codes "c00c0001000100000e100004c000020a"))
    -- the servers of the zone with their addresses
    × (udp small_zone (query (codes "example") 2)
    ≡ octets (codes "123484000001000100000001 076578616d706c650000020001" ++ servers))
    -- no reply to fewer octets than a header
    × (udp small_zone (take 11 www_query) ≡ None)
    -- another opcode
    × (udp small_zone (hex (codes "12341000000100000000000003777777076578616d706c650000010001"))
    ≡ octets (codes "123490040000000000000000"))
    -- a pointer in the question
    × (udp small_zone (hex (codes "123400000001000000000000c00c00010001"))
    ≡ octets (codes "123480010000000000000000"))
    -- a name of another zone
    × (udp small_zone (query (codes "www.other") 1)
    ≡ octets (codes "123480050001000000000000 03777777056f746865720000010001"))
    -- a type that is not a type of records
    × (udp small_zone (query (codes "example") 252)
    ≡ octets (codes "123480040001000000000000 076578616d706c650000fc0001"))
    -- a set that is one octet too long
    × (udp large_zone (query (codes "u.example") 16)
    ≡ octets (codes "123486000001000000000000 0175076578616d706c650000100001"))
    -- two aliases of each other
    × (udp large_zone (query (codes "r1.example") 1)
    ≡ octets (codes "123484000001000200000000 027231076578616d706c650000010001"
    ++ codes "c00c0005000100000e100005027232c00f c0280005000100000e100002c00c"))
    -- a set that fits exactly
    × (outline (udp large_zone (query (codes "t.example") 16)) 27 14
    ≡ part (codes "123484000001000100000000") 512 (codes "c00c0010000100000e1001d9ff61"))
    -- a referral without room for its glue
    × (outline (udp large_zone (query (codes "h.cut.example") 1)) 31 18
    ≡ part (codes "123482000001000000010000") 49 (codes "c00e0002000100000e10000603626967c00e"))
unfolding within labels_from cut run runs_before name_at octets_by data_by
    records_by layout size chain_from chain outcome_at outcome extra
    items required_items reply_with reply octets_of question_at query_read decide
reply_rows = search []

-- If the first owner of a set is at place 16,382, which a pointer reaches, the second owner is a
-- pointer to it. If it is at place 17,002, beyond the reach of a pointer, each owner is written up
-- to the suffix that it shares with the question.
abbrev after_question : List Placed
after_question = (under (codes "y"), 12) ∷ []

long_rows :
    (records_octets after_question 16382 (addresses 2 (codes "t25"))
    ≡ hex (codes "03743235c00e 00010001 00000e10 0004 c6336401 fffe 00010001 00000e10 0004"
    ++ codes "c6336402"))
    × (records_octets after_question 17002 (addresses 2 (codes "t26"))
    ≡ hex (codes "03743236c00e 00010001 00000e10 0004 c6336401 03743236c00e 00010001 00000e10"
    ++ codes "0004 c6336402"))
unfolding labels_from cut octets_by data_by records_by
long_rows = (refl, refl)

-- what a server of the small zone writes in reply to the first k messages of a stream
unfoldable answers : ℕ → Octets → Octets
unfolding first_frame frames within labels_from cut run runs_before name_at octets_by
    data_by records_by layout size chain_from chain outcome_at
    outcome extra items required_items reply_with reply octets_of question_at query_read decide
answers k x = replies (tcp small_zone) (frames k x)

-- a query, 11 octets that get no reply, and the query again
abbrev three_messages : Octets
three_messages = frame www_query ++ frame (replicate 11 0) ++ frame www_query

stream_rows :
    (frames 9 three_messages ≡ www_query ∷ replicate 11 0 ∷ www_query ∷ [])
    × (after_frames 9 three_messages ≡ [])
    -- a message without a reply gets no frame either
    × (answers 9 three_messages
    ≡ hex (codes "002d") ++ www_reply ++ hex (codes "002d") ++ www_reply)
    -- after k messages, nothing is read
    × (after_frames 1 (frame www_query ++ frame www_query) ≡ frame www_query)
    × (frames 9 (hex (codes "001d") ++ take 28 www_query) ≡ [])
unfolding first_frame frames after_frames answers within labels_from cut run runs_before name_at
    octets_by data_by records_by layout size chain_from
    chain outcome_at outcome extra items required_items reply_with reply octets_of question_at
    query_read decide
stream_rows = search []

-- a question, and the size of its reply with the sets that fit a limit
abbrev asked : Octets → ℕ → MessageQuestion
asked cs t = record { qname = dotted cs; qtype = t; qclass = 1 }

unfoldable reply_size : ZoneContents → ℕ → MessageQuestion → ℕ
unfolding labels_from cut octets_by data_by records_by size chain_from chain outcome_at outcome
    extra items
reply_size z limit q = size (Some q) (keep_longest z limit q)

size_rows :
    -- a set of strings that fits exactly
    (reply_size large_zone 512 (asked (codes "t.example") 16) ≡ 27 + 12 + (256 + 217))
    -- a referral without its glue
    × (reply_size large_zone 512 (asked (codes "h.cut.example") 1) ≡ 31 + 18)
unfolding reply_size labels_from cut octets_by data_by records_by size chain_from chain outcome_at
    outcome extra items
size_rows = search []

-- layouts without a question
abbrev head : Header
head = record { id = 1; flags = 33792 }

-- `www.example` is an alias of `ns.example`
abbrev www_alias : ResourceRecord
www_alias = entry (under (codes "www")) type_cname (wire (under (codes "ns")))

layout_rows :
    -- the names of the alias and their places: 10 octets are between owner and data
    ((record_laid [] 12 www_alias).names
    ≡ (under (codes "www"), 12) ∷ (under (codes "ns"), 35) ∷ [])
    -- the target of SRV is not a name to a writer
    × ((record_laid [] 12 (in_zone (codes "s") type_srv
    (replicate 6 0 ++ wire (under (codes "ns"))))).names ≡ (under (codes "s"), 12) ∷ [])
unfolding labels_from cut octets_by data_by
layout_rows = (refl, refl)

-- one record, whose owner begins at place 12
abbrev one_alias : List Item
one_alias = record { section = answer; records = www_alias ∷ [] } ∷ []

-- Without a question and records, a layout is a header with counts of 0.
header_alone : (h : Header) → layout h None [] ≡ header_octets h 0 0 0 0
unfolding layout records_by
header_alone h = refl

header_size_rows :
    (size None [] ≡ 12)
    -- the data of the alias shares `example`, at place 16, with its owner
    × (layout head None one_alias
    ≡ hex (codes "000184000000000100000000 03777777076578616d706c6500"
    ++ codes "00050001 00000e10 0005 026e73c010"))
    × (size None one_alias ≡ 12 + 13 + 10 + 5)
unfolding size labels_from cut octets_by data_by records_by layout
header_size_rows = (refl, refl, refl)
