-- What files mean: the records of a small file, and those of the small zone.
use Rattle.dns_spec.proofs.Common.{DomainName, List, Means, Octets, ResourceRecord, [], codes, cut, digits, entries_from, hex_octets, ipv6_groups, labels_from, read_entry, records, refl, run_length, type_a, type_aaaa, type_ns, type_soa, type_txt, wire, ℕ, ◌++◌, ◌∷◌}
use Rattle.dns_spec.proofs.WorkedExamples.Zones.{hex, example, under, net_192, soa_of, strings_data, small_records}
use Rattle.dns_spec.proofs.WorkedExamples.Readings.{records_in, found_is}
use mathlib.Core.Bool.{xor}

abbrev pub small_file : Octets
small_file =
    codes "$TTL 60\n"
    ++ codes "@ SOA ns h ( 1 2\n"
    ++ codes " 3 4 ; c\n"
    ++ codes " 5 )\n"
    ++ codes " NS ns\n"
    ++ codes "ns A 192.0.2.1\n"
    ++ codes " AAAA 2001:DB8:0:0:1::1\n"
    ++ codes "$ORIGIN deep\n"
    ++ codes "a\\.b 7 IN TXT hi \"x;y\"\n"
    ++ codes " CLASS1 9 TYPE65280 \\# 3 AB cdef\n"

abbrev record_of : DomainName → ℕ → ℕ → Octets → ResourceRecord
record_of n ttl t d = record { owner = n; ttl = ttl; rtype = t; rdata = d }

-- the owner of the last two records, whose first label is `a.b`
abbrev dotted_owner : DomainName
dotted_owner = codes "a.b" ∷ codes "deep" ∷ example

abbrev pub six_records : List ResourceRecord
six_records =
    record_of example 60 type_soa (soa_of (under (codes "ns")) (under (codes "h")) 1 2 3 4 5)
    ∷ record_of example 60 type_ns (wire (under (codes "ns")))
    ∷ record_of (under (codes "ns")) 60 type_a (net_192 1)
    ∷ record_of (under (codes "ns")) 60 type_aaaa
    (hex (codes "20010db8 00000000 00010000 00000001"))
    ∷ record_of dotted_owner 7 type_txt (strings_data (codes "hi" ∷ codes "x;y" ∷ []))
    ∷ record_of dotted_owner 9 65280 (hex (codes "abcdef"))
    ∷ []

pub small_file_means : Means example small_file (records six_records)
unfolding run_length xor digits cut labels_from read_entry entries_from ipv6_groups hex_octets
small_file_means = found_is (records_in small_file) six_records refl

-- the text of the small zone
abbrev zone_file : Octets
zone_file =
    codes "$TTL 3600\n"
    ++ codes "@ SOA ns hostmaster 1 7200 900 1209600 300\n"
    ++ codes "@ NS ns\n"
    ++ codes "ns A 192.0.2.1\n"
    ++ codes "www A 192.0.2.10\n"
    ++ codes "alias CNAME www\n"
    ++ codes "*.w TXT \"any\"\n"
    ++ codes "a.b.ent A 192.0.2.11\n"
    ++ codes "sub NS ns.sub\n"
    ++ codes "ns.sub A 192.0.2.53\n"

zone_file_means : Means example zone_file (records small_records)
unfolding run_length xor digits cut labels_from read_entry entries_from
zone_file_means = found_is (records_in zone_file) small_records refl
