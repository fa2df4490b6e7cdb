-- The faults of zones, computed from the definitions: each check fails at least once, and other
-- zones pass.
use Rattle.dns_spec.proofs.Common.{DomainName, Fault, List, Octets, ResourceRecord, [], bytes_high_first, codes, cut, faults, labels_from, suc, type_a, type_mx, type_soa, type_txt, wire, zero, zone_of, ℕ, ◌++◌, ◌+◌, ◌∷◌, ◌≡◌}
use Rattle.dns_spec.proofs.WorkedExamples.Zones.{dotted, example, under, entry, in_zone, address, alias, server, net_192, soa_of, addresses, small_zone_with, small_zone}

-- a fault of a name, given by its text
abbrev reported : Octets → ℕ → Fault
reported cs code = record { owner = dotted cs; code = code }

-- k sets of types without a mnemonic at `g.example.`
abbrev unknown_sets : ℕ → List ResourceRecord
unknown_sets zero = []
unknown_sets (suc k) = unknown_sets k ++ in_zone (codes "g") (65280 + k) [] ∷ []

-- the small zone with these records has these faults
abbrev With : List ResourceRecord → List Fault → Type 0
With rs found = faults (small_zone_with rs) ≡ found

abbrev soa_at : DomainName → ℕ → ResourceRecord
soa_at n serial =
    entry n type_soa (soa_of (under (codes "ns")) (under (codes "hostmaster")) serial 2 3 4 5)

abbrev exchange : ResourceRecord
exchange = entry example type_mx (bytes_high_first 2 10 ++ wire (under (codes "alias")))

check_rows :
    -- a set with two TTLs
    With (record (address (codes "www") (net_192 10)) { ttl = 60 } ∷ [])
    (reported (codes "www.example") 8 ∷ [])
    -- two CNAME records at a name
    × With (alias (codes "alias") (codes "ns") ∷ []) (reported (codes "alias.example") 7 ∷ [])
    -- a name server that is an alias lacks an address too
    × With (server example (codes "alias") ∷ [])
    (reported (codes "example") 9 ∷ reported (codes "example") 10 ∷ [])
    -- a mail exchange that is an alias
    × With (exchange ∷ []) (reported (codes "example") 11 ∷ [])
    -- NS records at a wildcard make it a cut, so the TXT set there is not allowed either
    × With (server (under (codes "*.w")) (codes "ns") ∷ [])
    (reported (codes "*.w.example") 12 ∷ reported (codes "*.w.example") 13 ∷ [])
    -- a name of another zone
    × With (entry (dotted (codes "www.other")) type_a (net_192 1) ∷ [])
    (reported (codes "www.other") 5 ∷ [])
    -- an SOA that is not at the origin, and a second SOA
    × With (soa_at (under (codes "www")) 1 ∷ []) (reported (codes "www.example") 3 ∷ [])
    × With (soa_at example 2 ∷ []) (reported (codes "example") 2 ∷ [])
    -- 65 records in a set, and 64
    × With (addresses 65 (codes "f")) (reported (codes "f.example") 14 ∷ [])
    -- 33 sets at a name, and 32
    × With (unknown_sets 33) (reported (codes "g.example") 15 ∷ [])
    -- a CNAME beside an address, and data below a cut
    × With (alias (codes "www") (codes "ns")
    ∷ in_zone (codes "x.sub") type_txt (1 ∷ codes "q") ∷ [])
    (reported (codes "x.sub.example") 12 ∷ reported (codes "www.example") 6 ∷ [])
    -- a zone that passes, and one with sets at the limits
    × (faults small_zone ≡ [])
    -- no records at all
    × (faults (zone_of example [])
    ≡ reported (codes "example") 1 ∷ reported (codes "example") 4 ∷ [])
unfolding faults labels_from cut
check_rows = search []
