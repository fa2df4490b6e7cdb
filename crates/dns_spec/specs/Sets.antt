-- RRsets: the types of records, an RRset without its owner, and the records of an RRset at an
-- owner.
use Rattle.std.specs.Prelude.{ℕ, List, [], ◌∷◌, map, All, ◌==◌}
use Rattle.std.specs.Prelude.{Option, None, Some}
use Rattle.std.specs.Ordering.{nat_cmp}
use Rattle.dns_spec.specs.Names.{Octets, DomainName}
use Rattle.dns_spec.specs.Data.{Valid}
use Rattle.dns_spec.specs.Records.{ResourceRecord, distinct, sort_by, of_type}

-- the types of records, each once; and these types by rising number
abbrev pub types_of : List ResourceRecord → List ℕ
types_of rs = distinct ◌==◌ (map (λ (r : ResourceRecord). r.rtype) rs)

abbrev pub rising_types : List ResourceRecord → List ℕ
rising_types rs = sort_by nat_cmp (types_of rs)

-- the records that have the first of the types, and the records that have the lowest type of all
-- records, sorted by data
abbrev pub of_first_type : List ℕ → List ResourceRecord → List ResourceRecord
of_first_type [] rs = []
of_first_type (t ∷ ts) rs = of_type t rs

abbrev pub of_lowest_type : List ResourceRecord → List ResourceRecord
of_lowest_type rs = of_first_type (rising_types rs) rs

-- RFC 2181 5: an RRset without its owner: a type, a TTL in seconds, and the data of each record
pub record RecordSet : Type 0 where
  pub rtype : ℕ
  pub ttl : ℕ
  pub rdata : List Octets

-- RFC 1035 3.2.1: all data of the set is valid for its type
abbrev pub HasValidData : RecordSet → Type 0
HasValidData set = All (Valid set.rtype) set.rdata

-- the records of the set at an owner, with a TTL that may differ from the set's (RFC 2308 5)
abbrev pub records_at : DomainName → ℕ → RecordSet → List ResourceRecord
records_at owner ttl set =
    map (λ (d : Octets). record { owner = owner; ttl = ttl; rtype = set.rtype; rdata = d })
    set.rdata

-- records of one type as a set, with the type and the TTL of the first record; `None` if there are
-- no records
abbrev pub set_of : List ResourceRecord → Option RecordSet
set_of [] = None
set_of (r ∷ rs) =
    Some (record {
      rtype = r.rtype;
      ttl = r.ttl;
      rdata = r.rdata ∷ map (λ (s : ResourceRecord). s.rdata) rs;
    })
