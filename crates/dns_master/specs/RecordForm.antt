-- What single words of an entry mean, and an invariant of records.
use Rattle.std.specs.Prelude.{◌≡◌, ℕ, ◌<◌, ◌≤◌, not, List, IsTrue, MatchOption, Option}
use Rattle.dns_spec.specs.Names.{Octets, DomainName, folded}
use Rattle.dns_spec.specs.Data.{Valid, lower_case}
use Rattle.dns_spec.specs.NameText.{SpellsName}
use Rattle.dns_spec.specs.TypeText.{NamesType}
use Rattle.dns_spec.specs.DataText.{Word}
use Rattle.dns_spec.specs.ZoneText.{Entry}
use Rattle.dns_spec.specs.Meaning.{most_ttl, Nothing, OwnerBefore, is_zone_type}

-- an unquoted word spells a name, relative to the origin
abbrev pub SpelledName : DomainName → Word → DomainName → Type 0
SpelledName origin w n = IsTrue (not w.is_quoted) × SpellsName origin w.raw n

-- a name that an unquoted word spells, in lower case
abbrev pub SpelledOwner : DomainName → Word → DomainName → Type 0
SpelledOwner origin w owner = (n : DomainName) × SpelledName origin w n × (owner ≡ folded n)

-- an unquoted word names a type that zones may have
abbrev pub NamedType : Word → ℕ → Type 0
NamedType w t = IsTrue (not w.is_quoted) × NamesType w.raw t × IsTrue (is_zone_type t)

-- the owner that was stated last, in lower case; None if no owner was stated
abbrev pub LastOwner : DomainName → List Entry → Option DomainName → Type 0
LastOwner o earlier owner =
    MatchOption owner (Nothing (OwnerBefore o earlier))
    (λ f. (n : DomainName) × OwnerBefore o earlier n × (f ≡ folded n))

-- An invariant of records: the owner is in lower case, the TTL is within its limit, and the type is
-- a number of 16 bits. The data is valid for the type, and its names are in lower case.
pub record IsKept (owner : DomainName) (ttl t : ℕ) (d : Octets) : Type 0 where
  pub low : folded owner ≡ owner
  pub short : ttl ≤ most_ttl
  pub small : t < 65536
  pub is_valid : Valid t d
  pub lowered : lower_case t d ≡ d
