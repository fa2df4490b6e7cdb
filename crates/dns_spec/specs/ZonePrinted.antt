-- The canonical text in which a zone is printed, line by line.
use Rattle.std.specs.Prelude.{◌≡◌, ◌<◌, ◌≤◌, Bool, not, All, List, ◌++◌, ◌==◌, IsTrue, codes, decimal}
use Rattle.std.specs.List.{filter, flat_map}
use Rattle.dns_spec.specs.Names.{Octets, is_name, folded}
use Rattle.dns_spec.specs.Data.{type_soa, Valid, lower_case}
use Rattle.dns_spec.specs.NameText.{name_text}
use Rattle.dns_spec.specs.TypeText.{type_text}
use Rattle.dns_spec.specs.WrittenText.{data_text}
use Rattle.dns_spec.specs.Records.{record_order, ResourceRecord, ZoneContents, sort_by}
use Rattle.dns_spec.specs.Meaning.{most_ttl, is_zone_type}

-- what holds for each record that is read from a file: its fields are in range, its data is valid
-- for its type, and its owner and the names in its data are in lower case
pub record IsReadRecord (r : ResourceRecord) : Type 0 where
  pub owner_octets : All (All (λ o. o < 256)) r.owner
  pub owner : IsTrue (is_name r.owner)
  pub lower_owner : folded r.owner ≡ r.owner
  pub ttl : r.ttl ≤ most_ttl
  pub rtype : r.rtype < 65536
  pub rdata_octets : All (λ o. o < 256) r.rdata
  pub rdata : Valid r.rtype r.rdata
  pub lower_data : lower_case r.rtype r.rdata ≡ r.rdata

-- the record's type may appear in a zone
abbrev pub HasZoneType : ResourceRecord → Type 0
HasZoneType r = IsTrue (is_zone_type r.rtype)

-- RFC 1035 5.1: a record on one line, with all its fields
abbrev pub record_line : ResourceRecord → Octets
record_line r =
    name_text r.owner ++ codes " " ++ decimal r.ttl ++ codes " IN " ++ type_text r.rtype
    ++ codes " " ++ data_text r.rtype r.rdata ++ codes "\n"

-- the record is an SOA; and the records with all SOA records in front (in this product)
abbrev pub is_soa : ResourceRecord → Bool
is_soa r = r.rtype == type_soa

abbrev pub soa_first : List ResourceRecord → List ResourceRecord
soa_first rs = filter is_soa rs ++ filter (λ r. not (is_soa r)) rs

-- the records in the order in which they are printed: the SOA, then the others in canonical order
abbrev pub printed_records : ZoneContents → List ResourceRecord
printed_records z = soa_first (sort_by record_order z.records)

-- the canonical text of a zone
unfoldable pub zone_text : ZoneContents → Octets
zone_text z = flat_map record_line (printed_records z)
