-- The fifteen faults that keep a zone from being served. Each is a separate condition over the
-- whole list of records, so one record may cause several faults. Which conditions are faults is
-- this project's choice.
use Rattle.std.specs.Prelude.{◌≡◌, ℕ, Bool, false, ◌&&◌, ◌||◌, not, List, [], ◌∷◌, map, length, nat_lt, ◌==◌}
use Rattle.std.specs.Option.{option_map_or}
use Rattle.std.specs.List.{list_any, filter, flat_map}
use Rattle.std.specs.Ordering.{nat_cmp, ordering_then}
use Rattle.std.specs.declared.cmp.Ordering.{Ordering}
use Rattle.dns_spec.specs.Names.{DomainName, folded, same, octets_equal, at_or_below, suffixes, name_order}
use Rattle.dns_spec.specs.Data.{type_a, type_ns, type_cname, type_soa, type_mx, type_aaaa, type_srv, target}
use Rattle.dns_spec.specs.Records.{ResourceRecord, ZoneContents, at, owns, distinct, sort_by}
use Rattle.dns_spec.specs.Sets.{types_of}
use Rattle.dns_spec.specs.Tree.{is_cut, without_first, asterisk}

-- A condition on a name of a zone; a check is a condition that makes the name faulty.
abbrev pub Check : Type 0
Check = ZoneContents → DomainName → Bool

-- the name is the origin
abbrev pub is_origin : Check
is_origin z n = same n z.origin

-- the name owns a record
abbrev pub is_owner : Check
is_owner z n = nat_lt 0 (length (at z n))

-- the number of records of a type that a name owns
abbrev pub count : ZoneContents → DomainName → ℕ → ℕ
count z n t = length (filter (λ (r : ResourceRecord). r.rtype == t) (at z n))

-- the name owns a record whose type passes the test
abbrev pub owns_such : ZoneContents → DomainName → (ℕ → Bool) → Bool
owns_such z n test = list_any (λ (r : ResourceRecord). test r.rtype) (at z n)

-- a record of the name, of a type that `type` accepts, has a target at or below the origin that
-- passes the test
abbrev pub has_target : ZoneContents → DomainName → (ℕ → Bool) → (DomainName → Bool) → Bool
has_target z n type test =
    list_any
    (λ (r : ResourceRecord). type r.rtype
    && option_map_or (λ m. at_or_below m z.origin && test m) (target r.rtype r.rdata) false)
    (at z n)

-- RFC 1034 4.2: the name is at or below a cut, so the zone is not authoritative for its records
abbrev pub at_or_below_cut : Check
at_or_below_cut z n = list_any (is_cut z) (suffixes n)

-- the name is below a cut
abbrev pub below_cut : Check
below_cut z n = list_any (is_cut z) (without_first (suffixes n))

-- the name owns an address record; and the test whether a type is A or AAAA
abbrev pub has_address : Check
has_address z n = owns z n type_a || owns z n type_aaaa

abbrev pub is_address_type : ℕ → Bool
is_address_type t = t == type_a || t == type_aaaa

-- against RFC 1035 5.2 (a zone has exactly one SOA, at its origin): the origin owns no SOA; the
-- origin owns several; another name owns one
abbrev pub no_soa : Check
no_soa z n = is_origin z n && not (owns z n type_soa)

abbrev pub many_soa : Check
many_soa z n = is_origin z n && nat_lt 1 (count z n type_soa)

abbrev pub soa_elsewhere : Check
soa_elsewhere z n = not (is_origin z n) && owns z n type_soa

-- against RFC 1034 4.2.1 (a zone names its servers at its origin): the origin owns no NS record
abbrev pub no_ns : Check
no_ns z n = is_origin z n && not (owns z n type_ns)

-- against RFC 1034 4.2 (all names of a zone are at or below its origin): the name is an owner
-- elsewhere
abbrev pub outside : Check
outside z n = is_owner z n && not (at_or_below n z.origin)

-- against RFC 1034 3.6.2 (a name with a CNAME has no other data): the name owns both
abbrev pub cname_and_other : Check
cname_and_other z n = owns z n type_cname && owns_such z n (λ t. not (t == type_cname))

-- against RFC 2181 10.1 (a name has at most one CNAME): the name owns several
abbrev pub many_cname : Check
many_cname z n = nat_lt 1 (count z n type_cname)

-- against RFC 2181 5.2 (the records of an RRset have one TTL): two records of one type differ in
-- TTL
abbrev pub ttls_differ : Check
ttls_differ z n =
    list_any (λ (r : ResourceRecord). list_any (λ (s : ResourceRecord). r.rtype == s.rtype
    && not (r.ttl == s.ttl)) (at z n)) (at z n)

-- against RFC 2181 10.3 (the target of NS is not an alias): a target in the zone is one
abbrev pub ns_target_alias : Check
ns_target_alias z n = has_target z n (λ t. t == type_ns) (λ m. owns z m type_cname)

-- RFC 1034 4.2.1: m, a name server of n, has no address, although the zone must contain one: m is
-- at or below no cut; or n is a cut, and m is at or below n and needs glue, even if another cut
-- lies between them. Otherwise the address of m is in the zone below a cut.
abbrev pub lacks_address : ZoneContents → DomainName → DomainName → Bool
lacks_address z n m =
    not (has_address z m) && (not (at_or_below_cut z m) || is_cut z n && at_or_below m n)

-- against RFC 1034 4.2.1: a target of NS in the zone lacks an address that the zone must contain
abbrev pub ns_target_lacks_address : Check
ns_target_lacks_address z n = has_target z n (λ t. t == type_ns) (lacks_address z n)

-- against RFC 2181 10.3 and RFC 2782 (the targets of MX and SRV are not aliases): a target in the
-- zone is one
abbrev pub mx_target_alias : Check
mx_target_alias z n = has_target z n (λ t. t == type_mx || t == type_srv) (λ m. owns z m type_cname)

-- against RFC 1034 4.2.1 (a cut owns only NS records and addresses, and a name below it only glue
-- addresses): the name owns a record of another type
abbrev pub data_at_cut : Check
data_at_cut z n =
    is_cut z n && owns_such z n (λ t. not (t == type_ns || is_address_type t))
    || below_cut z n && owns_such z n (λ t. not (is_address_type t))

-- the first label is `*`; and such a name owns NS records, which have no defined meaning there (RFC
-- 4592 4.2)
abbrev pub first_is_asterisk : DomainName → Bool
first_is_asterisk [] = false
first_is_asterisk (l ∷ n) = octets_equal l asterisk

abbrev pub wildcard_ns : Check
wildcard_ns z n = first_is_asterisk n && owns z n type_ns

-- limits of this project: the most records in an RRset, and the most RRsets at a name
abbrev pub most_of_a_set : ℕ
most_of_a_set = 64

abbrev pub most_sets : ℕ
most_sets = 32

-- an RRset of the name has more than `most_of_a_set` records
abbrev pub large_set : Check
large_set z n = list_any (λ (r : ResourceRecord). nat_lt most_of_a_set (count z n r.rtype)) (at z n)

-- the name has more than `most_sets` RRsets
abbrev pub many_sets : Check
many_sets z n = nat_lt most_sets (length (types_of (at z n)))

-- the checks with their codes, from 1
abbrev pub checks : List (ℕ × Check)
checks =
    (1, no_soa) ∷ (2, many_soa) ∷ (3, soa_elsewhere) ∷ (4, no_ns) ∷ (5, outside)
    ∷ (6, cname_and_other) ∷ (7, many_cname) ∷ (8, ttls_differ) ∷ (9, ns_target_alias)
    ∷ (10, ns_target_lacks_address) ∷ (11, mx_target_alias) ∷ (12, data_at_cut) ∷ (13, wildcard_ns)
    ∷ (14, large_set) ∷ (15, many_sets) ∷ []

-- the name fails the check with this code
abbrev pub fails : ZoneContents → DomainName → ℕ → Bool
fails z n code = list_any (λ c. c.0 == code && c.1 z n) checks

-- a fault: the owner it is reported for, in lower case, and the code of the failed check
pub record Fault : Type 0 where
  pub owner : DomainName
  pub code : ℕ

-- the faults of a name
abbrev pub faults_at : ZoneContents → DomainName → List Fault
faults_at z n = map (λ c. record { owner = n; code = c.0 }) (filter (λ c. c.1 z n) checks)

-- the names that are checked: the origin and all owners, in canonical order
abbrev pub checked_names : ZoneContents → List DomainName
checked_names z =
    sort_by name_order
    (distinct same (folded z.origin ∷ map (λ (r : ResourceRecord). folded r.owner) z.records))

-- all faults, each once, by owner in canonical order and then by code
unfoldable pub faults : ZoneContents → List Fault
faults z = flat_map (faults_at z) (checked_names z)

-- the order of faults: by owner, then by code
abbrev pub fault_order : Fault → Fault → Ordering
fault_order f g = ordering_then (name_order f.owner g.owner) (nat_cmp f.code g.code)

-- the zone may be served: it has no faults
abbrev pub Passes : ZoneContents → Type 0
Passes z = faults z ≡ []
