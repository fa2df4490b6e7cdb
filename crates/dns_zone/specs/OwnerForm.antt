-- A name of a zone under check.
use Rattle.std.specs.Prelude.{◌≡◌, ℕ, ◌==◌, ◌&&◌, ◌||◌, not, Bool, false, List, length}
use Rattle.std.specs.Option.{option_map_or}
use Rattle.std.specs.List.{filter}
use Rattle.std.specs.List.Sorted.{IsNonDecreasingBy}
use Rattle.dns_spec.specs.Names.{DomainName, folded, at_or_below}
use Rattle.dns_spec.specs.Data.{type_ns, type_cname, type_soa, type_mx, type_srv, target}
use Rattle.dns_spec.specs.Checks.{is_address_type, lacks_address}
use Rattle.dns_spec.specs.Records.{ResourceRecord, ZoneContents, at, owns}

-- a zone, and the name to be checked
pub record NameOfZone : Type 0 where
  pub zone : ZoneContents
  pub name : DomainName

-- An invariant: the name is in lower case, and these are its records, ordered by type.
pub record IsOwner (z : ZoneContents) (n : DomainName) (own : List ResourceRecord) : Type 0 where
  pub lower : folded n ≡ n
  pub own_is : own ≡ at z n
  pub by_types : IsNonDecreasingBy (λ (r : ResourceRecord). r.rtype) own

-- an NS record whose target is a name in the zone that owns a CNAME
abbrev pub is_server_alias : ZoneContents → ResourceRecord → Bool
is_server_alias z r = r.rtype == type_ns && option_map_or
    (λ m. at_or_below m z.origin && owns z m type_cname) (target r.rtype r.rdata) false

-- an NS record of a name, whose target is a name in the zone that lacks an address
abbrev pub server_lacks_address : ZoneContents → DomainName → ResourceRecord → Bool
server_lacks_address z n r = r.rtype == type_ns && option_map_or
    (λ m. at_or_below m z.origin && lacks_address z n m) (target r.rtype r.rdata) false

-- an MX or SRV record whose target is a name in the zone that owns a CNAME
abbrev pub is_exchange_alias : ZoneContents → ResourceRecord → Bool
is_exchange_alias z r = (r.rtype == type_mx || r.rtype == type_srv) && option_map_or
    (λ m. at_or_below m z.origin && owns z m type_cname) (target r.rtype r.rdata) false

-- the number of records whose type passes the test
abbrev pub number_of : (ℕ → Bool) → List ResourceRecord → ℕ
number_of test rs = length (filter (λ (r : ResourceRecord). test r.rtype) rs)

-- the type MX or SRV
abbrev pub is_exchange_type : ℕ → Bool
is_exchange_type t = t == type_mx || t == type_srv

-- a type other than NS, A and AAAA
abbrev pub is_other_type : ℕ → Bool
is_other_type t = not (t == type_ns || is_address_type t)

-- a type whose records, if a name has this many records in all, fail no check for their type
abbrev pub is_plain_type : ℕ → ℕ → Bool
is_plain_type count t = not (t == type_soa) && not (t == type_ns) && not (is_exchange_type t)
    && (not (t == type_cname) || count == 1)
