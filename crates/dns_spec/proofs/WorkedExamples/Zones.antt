-- The zones and queries of the worked examples, built from readable text.
use Rattle.dns_spec.proofs.Common.{DomainName, List, Octets, ResourceRecord, ZoneContents, [], bytes_high_first, codes, digit_value, flat_map, if◌then◌else◌, length, replicate, suc, type_a, type_cname, type_ns, type_soa, type_txt, wire, zero, zone_of, ℕ, ◌*◌, ◌++◌, ◌+◌, ◌==◌, ◌∷◌}

-- a name by its labels with dots between them: `www.example` is the labels `www` and `example`
abbrev pub with_letter : ℕ → DomainName → DomainName
with_letter c [] = (c ∷ []) ∷ []
with_letter c (l ∷ n) = (c ∷ l) ∷ n

abbrev pub dotted : Octets → DomainName
dotted [] = []
dotted (c ∷ []) = (c ∷ []) ∷ []
dotted (c ∷ d ∷ cs) = if c == 46 then [] ∷ dotted (d ∷ cs) else with_letter c (dotted (d ∷ cs))

-- octets by their hex digits, with spaces anywhere
abbrev pub hex_digits : Octets → Octets
hex_digits [] = []
hex_digits (c ∷ cs) = if c == 32 then hex_digits cs else digit_value c ∷ hex_digits cs

abbrev pub paired : Octets → Octets
paired [] = []
paired (h ∷ []) = []
paired (h ∷ l ∷ ds) = (16 * h + l) ∷ paired ds

abbrev pub hex : Octets → Octets
hex cs = paired (hex_digits cs)

-- names, and records with a TTL of 3600, relative to `example.`
abbrev pub example : DomainName
example = dotted (codes "example")

abbrev pub under : Octets → DomainName
under cs = dotted cs ++ example

abbrev pub entry : DomainName → ℕ → Octets → ResourceRecord
entry n t d = record { owner = n; ttl = 3600; rtype = t; rdata = d }

abbrev pub in_zone : Octets → ℕ → Octets → ResourceRecord
in_zone cs t d = entry (under cs) t d

abbrev pub address : Octets → Octets → ResourceRecord
address cs a = in_zone cs type_a a

abbrev pub alias : Octets → Octets → ResourceRecord
alias cs to = in_zone cs type_cname (wire (under to))

abbrev pub server : DomainName → Octets → ResourceRecord
server n to = entry n type_ns (wire (under to))

-- one or more strings, each after its length
abbrev pub strings_data : List Octets → Octets
strings_data = flat_map (λ s. length s ∷ s)

abbrev pub net_192 : ℕ → Octets
net_192 k = 192 ∷ 0 ∷ 2 ∷ k ∷ []

abbrev pub soa_of : DomainName → DomainName → ℕ → ℕ → ℕ → ℕ → ℕ → Octets
soa_of m r serial refresh retry expire minimum =
    wire m ++ wire r
    ++ flat_map (bytes_high_first 4) (serial ∷ refresh ∷ retry ∷ expire ∷ minimum ∷ [])

abbrev pub example_soa : ResourceRecord
example_soa =
    entry example type_soa
    (soa_of (under (codes "ns")) (under (codes "hostmaster")) 1 7200 900 1209600 300)

-- `ns`, `www`, `alias`, `*.w`, `a.b.ent`, and the cut `sub` with its name server below it
abbrev pub small_records : List ResourceRecord
small_records =
    example_soa
    ∷ server example (codes "ns")
    ∷ address (codes "ns") (net_192 1)
    ∷ address (codes "www") (net_192 10)
    ∷ alias (codes "alias") (codes "www")
    ∷ in_zone (codes "*.w") type_txt (strings_data (codes "any" ∷ []))
    ∷ address (codes "a.b.ent") (net_192 11)
    ∷ server (under (codes "sub")) (codes "ns.sub")
    ∷ address (codes "ns.sub") (net_192 53)
    ∷ []

abbrev pub small_zone : ZoneContents
small_zone = zone_of example small_records

abbrev pub small_zone_with : List ResourceRecord → ZoneContents
small_zone_with rs = zone_of example (small_records ++ rs)

-- the addresses 198.51.100.1 to 198.51.100.k of one name
abbrev pub addresses : ℕ → Octets → List ResourceRecord
addresses zero cs = []
addresses (suc k) cs = addresses k cs ++ address cs (198 ∷ 51 ∷ 100 ∷ suc k ∷ []) ∷ []

abbrev pub letters : ℕ → Octets
letters k = replicate k 97

-- sets at the limit of a reply, two aliases of each other, and a cut with 64 addresses as glue
abbrev pub large_zone : ZoneContents
large_zone =
    small_zone_with (
    in_zone (codes "t") type_txt (strings_data (letters 255 ∷ letters 216 ∷ []))
    ∷ in_zone (codes "u") type_txt (strings_data (letters 255 ∷ letters 217 ∷ []))
    ∷ alias (codes "r1") (codes "r2")
    ∷ alias (codes "r2") (codes "r1")
    ∷ server (under (codes "cut")) (codes "big.cut")
    ∷ addresses 64 (codes "big.cut"))

-- a query: its header and one question of class IN
abbrev pub query_header : Octets
query_header = hex (codes "123400000001000000000000")

abbrev pub asks : DomainName → ℕ → Octets
asks n t = query_header ++ wire n ++ bytes_high_first 2 t ++ bytes_high_first 2 1

abbrev pub query : Octets → ℕ → Octets
query cs t = asks (dotted cs) t

abbrev pub www_query : Octets
www_query = hex (codes "12340000000100000000000003777777076578616d706c650000010001")
