-- The reports about zones and files, octet by octet.
use Rattle.dns_spec.proofs.Common.{All, All-from_recursion, Bool, Contains, HoldSameRecords, IsReadRecord, List, Octets, Options, Report, Reports, ResourceRecord, [], bad_ttl, codes, cut, data_text, digits, false, fault_at, faults, hex_octets, labels_from, lit<, lit≤, octet_text, record_line, records, refl, report_of_meaning, true, type_a, type_txt, zone_of, zone_report, zone_text, ℕ, ◌++◌, ◌<◌, ◌∷◌, ◌≡◌}
use Rattle.dns_spec.proofs.WorkedExamples.FileRows.{small_file, six_records, small_file_means}
use Rattle.dns_spec.proofs.WorkedExamples.Zones.{dotted, example, entry, in_zone, alias, strings_data, net_192, small_records, small_zone_with}

abbrev options : Bool → Bool → Options
options quiet printing = record { is_quiet = quiet; is_printing = printing }

abbrev passed : Octets → Report
passed output = record { output = output; passes = true }

abbrev failed : Octets → Report
failed output = record { output = output; passes = false }

-- no options, only `--quiet`, only `--print`, and both
abbrev no_options : Options
no_options = options false false

abbrev quiet : Options
quiet = options true false

abbrev printing : Options
printing = options false true

-- an address record with a TTL, and two lists of such records with two TTLs
abbrev address_for : ℕ → ResourceRecord
address_for ttl = record (entry (dotted (codes "ns")) type_a (net_192 1)) { ttl = ttl }

abbrev once_each : List ResourceRecord
once_each = address_for 5 ∷ address_for 7 ∷ []

abbrev twice_for_7 : List ResourceRecord
twice_for_7 = address_for 7 ∷ address_for 5 ∷ address_for 7 ∷ []

report_rows :
    -- a zone that passes
    (report_of_meaning no_options example (records small_records)
    ≡ passed (codes "zone example/IN: loaded serial 1\nOK\n"))
    × (report_of_meaning quiet example (records small_records) ≡ passed [])
    -- the canonical text of that zone
    × (report_of_meaning printing example (records small_records)
    ≡ passed (codes "example. 3600 IN SOA ns.example. hostmaster.example. 1 7200 900 1209600 300\n"
    ++ codes "example. 3600 IN NS ns.example.\n"
    ++ codes "alias.example. 3600 IN CNAME www.example.\n"
    ++ codes "a.b.ent.example. 3600 IN A 192.0.2.11\n"
    ++ codes "ns.example. 3600 IN A 192.0.2.1\n"
    ++ codes "sub.example. 3600 IN NS ns.sub.example.\n"
    ++ codes "ns.sub.example. 3600 IN A 192.0.2.53\n"
    ++ codes "*.w.example. 3600 IN TXT \"any\"\n"
    ++ codes "www.example. 3600 IN A 192.0.2.10\n"))
    -- data below a cut, and an address beside an alias: the faults are sorted by owner
    × (zone_report no_options (small_zone_with (alias (codes "www") (codes "ns")
    ∷ in_zone (codes "x.sub") type_txt (strings_data (codes "q" ∷ [])) ∷ []))
    ≡ failed (codes "x.sub.example. Z12\nwww.example. Z06\n"))
    -- a fault of the file is reported although printing was asked for
    × (report_of_meaning printing example (fault_at bad_ttl 4) ≡ failed (codes "line 4: R09\n"))
    -- records that differ only in their TTL: the lower TTL comes first
    × (zone_text (zone_of [] twice_for_7)
    ≡ codes "ns. 5 IN A 192.0.2.1\nns. 7 IN A 192.0.2.1\n")
unfolding faults labels_from cut zone_text data_text hex_octets octet_text digits
report_rows = search []

same_in_another_order : HoldSameRecords once_each twice_for_7
same_in_another_order = (
  All-from_recursion (Contains twice_for_7) once_each
      ((1, lit< tt, refl), ((0, lit< tt, refl), tt)),
  All-from_recursion (Contains once_each) twice_for_7
      ((1, lit< tt, refl), ((0, lit< tt, refl), ((1, lit< tt, refl), tt))),
)

-- a file of comments, parentheses and relative names, and the text in which its zone is printed
small_file_printed : Reports example small_file printing (passed (
    codes "example. 60 IN SOA ns.example. h.example. 1 2 3 4 5\n"
    ++ codes "example. 60 IN NS ns.example.\n"
    ++ codes "a\\.b.deep.example. 7 IN TXT \"hi\" \"x;y\"\n"
    ++ codes "a\\.b.deep.example. 9 IN TYPE65280 \\# 3 abcdef\n"
    ++ codes "ns.example. 60 IN A 192.0.2.1\n"
    ++ codes "ns.example. 60 IN AAAA 2001:db8::1:0:0:1\n"))
unfolding faults labels_from cut zone_text data_text hex_octets octet_text digits
small_file_printed = (records six_records, small_file_means, refl)

-- a record whose owner and data contain octets that are written with a backslash
odd_record : ResourceRecord
odd_record = record {
  owner = (36 ∷ 7 ∷ 46 ∷ []) ∷ codes "a" ∷ [];
  ttl = 0;
  rtype = type_txt;
  rdata = 3 ∷ 34 ∷ 10 ∷ 255 ∷ [];
}

its_line : record_line odd_record ≡ codes "\\$\\007\\..a. 0 IN TXT \"\\\"\\010\\255\"\n"
unfolding odd_record octet_text data_text digits
its_line = refl

it_is_read : IsReadRecord odd_record
unfolding odd_record cut labels_from
it_is_read = record {
  owner_octets = All-from_recursion (All (λ o. o < 256)) odd_record.owner (
    All-from_recursion (λ o. o < 256) (36 ∷ 7 ∷ 46 ∷ []) (lit< tt, (lit< tt, (lit< tt, tt))),
    (All-from_recursion (λ o. o < 256) (codes "a") (lit< tt, tt), tt),
  );
  owner = refl;
  lower_owner = refl;
  ttl = lit≤ tt;
  rtype = lit< tt;
  rdata_octets = All-from_recursion (λ o. o < 256) odd_record.rdata
      (lit< tt, (lit< tt, (lit< tt, (lit< tt, tt))));
  rdata = refl;
  lower_data = refl;
}
