-- Records and zones: the records at a name, RRsets, and the canonical order.
use Rattle.std.specs.Prelude.{ℕ, Bool, ◌&&◌, not, All, List, [], ◌∷◌, map, ◌==◌, if◌then◌else◌}
use Rattle.std.specs.List.{Contains, list_any, filter}
use Rattle.std.specs.Ordering.{nat_cmp, is_gt, ordering_then}
use Rattle.std.specs.Cmp.Lexicographic.{slice_cmp}
use Rattle.std.specs.declared.cmp.Ordering.{Ordering}
use Rattle.dns_spec.specs.Names.{Octets, DomainName, folded, octets_equal, same, name_order}
use Rattle.dns_spec.specs.Data.{type_soa, soa_serial}

-- RFC 1035 3.2.1: a record of class IN. The TTL is in seconds; the data is uncompressed.
pub record ResourceRecord : Type 0 where
  pub owner : DomainName
  pub ttl : ℕ
  pub rtype : ℕ
  pub rdata : Octets

-- two records are equal: the same owner in any case, the same type and data (RFC 2181 section 5)
-- and, in this product, the same TTL
abbrev pub records_equal : ResourceRecord → ResourceRecord → Bool
records_equal r s =
    same r.owner s.owner && r.rtype == s.rtype && octets_equal r.rdata s.rdata && r.ttl == s.ttl

-- each record of one list is in the other, in any order and any number of times
abbrev pub HoldSameRecords : List ResourceRecord → List ResourceRecord → Type 0
HoldSameRecords rs ss = All (Contains ss) rs × All (Contains rs) ss

-- an origin, and records whose order has no meaning; `zone_of` gives an origin in lower case
pub record ZoneContents : Type 0 where
  pub origin : DomainName
  pub records : List ResourceRecord

-- the list without duplicates: of equal elements, only the first remains
abbrev pub distinct : {X : Type 0} → (X → X → Bool) → List X → List X
distinct eq [] = []
distinct eq (x ∷ xs) = x ∷ filter (λ y. not (eq x y)) (distinct eq xs)

-- RFC 2181 section 5: the zone with this origin and these records, without duplicates
abbrev pub zone_of : DomainName → List ResourceRecord → ZoneContents
zone_of o rs = record { origin = folded o; records = distinct records_equal rs }

-- insertion sort: an element is inserted before the first element that is not less than it, so
-- equal elements keep their order
abbrev pub insert_by : {X : Type 0} → (X → X → Ordering) → X → List X → List X
insert_by cmp x [] = x ∷ []
insert_by cmp x (y ∷ ys) = if is_gt (cmp x y) then y ∷ insert_by cmp x ys else x ∷ y ∷ ys

abbrev pub sort_by : {X : Type 0} → (X → X → Ordering) → List X → List X
sort_by cmp [] = []
sort_by cmp (x ∷ xs) = insert_by cmp x (sort_by cmp xs)

-- RFC 4034 6.3: data is compared as unsigned octets; data comes before longer data that begins with
-- it
abbrev pub data_order : ResourceRecord → ResourceRecord → Ordering
data_order r s = slice_cmp nat_cmp r.rdata s.rdata

-- The canonical order of records: by owner (RFC 4034 6.1); then, in this product, by type; then by
-- data (RFC 4034 6.3); and last by TTL.
abbrev pub record_order : ResourceRecord → ResourceRecord → Ordering
record_order r s =
    ordering_then (name_order r.owner s.owner)
    (ordering_then (nat_cmp r.rtype s.rtype) (ordering_then (data_order r s) (nat_cmp r.ttl s.ttl)))

-- the zone with this origin and these records, without duplicates and in canonical order
abbrev pub ordered_zone : DomainName → List ResourceRecord → ZoneContents
ordered_zone o rs =
    record { origin = folded o; records = sort_by record_order (distinct records_equal rs) }

-- the records at a name
abbrev pub at : ZoneContents → DomainName → List ResourceRecord
at z n = filter (λ (r : ResourceRecord). same r.owner n) z.records

-- the records of a type, sorted by data
abbrev pub of_type : ℕ → List ResourceRecord → List ResourceRecord
of_type t rs = sort_by data_order (filter (λ (r : ResourceRecord). r.rtype == t) rs)

-- RFC 2181 section 5: the RRset of a name and a type, sorted by data
abbrev pub rrset : ZoneContents → DomainName → ℕ → List ResourceRecord
rrset z n t = of_type t (at z n)

-- the name owns a record of the type
abbrev pub owns : ZoneContents → DomainName → ℕ → Bool
owns z n t = list_any (λ (r : ResourceRecord). same r.owner n && r.rtype == t) z.records

-- the records, with this name as their owner
abbrev pub with_owner : DomainName → List ResourceRecord → List ResourceRecord
with_owner n = map (λ (r : ResourceRecord). record r { owner = n })

-- the SERIAL of the first of the SOA records; 0 if there are no records
abbrev pub first_serial : List ResourceRecord → ℕ
first_serial [] = 0
first_serial (r ∷ rs) = soa_serial r.rdata

-- RFC 1035 3.3.13: the serial of a zone is the SERIAL of the SOA at its origin; 0 without an SOA
abbrev pub zone_serial : ZoneContents → ℕ
zone_serial z = first_serial (rrset z z.origin type_soa)
