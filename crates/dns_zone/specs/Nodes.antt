-- The counts of a walk over the names of a zone, the nodes of a zone, and their sets of records.
use Rattle.std.specs.Prelude.{◌≡◌, ℕ, true, ◌≤◌, length}
use Rattle.dns_spec.specs.Names.{DomainName, folded}
use Rattle.dns_spec.specs.Records.{ZoneContents, rrset}
use Rattle.dns_spec.specs.Sets.{RecordSet, HasValidData, records_at}
use Rattle.dns_spec.specs.Tree.{exists}
use Rattle.dns_spec.specs.Meaning.{most_ttl}
use Rattle.dns_zone.specs.ZoneForm.{IsBuilt}

-- a zone, how many of its nodes were visited, and how many labels were compared
pub record Walk : Type 0 where
  pub zone : ZoneContents
  pub visits : ℕ
  pub comparisons : ℕ

-- a name of a zone
pub record ZoneNode : Type 0 where
  pub zone : ZoneContents
  pub name : DomainName

-- RFC 4592 2.2: the name exists in a built zone, and is in lower case.
pub record IsNode (z : ZoneContents) (n : DomainName) : Type 0 where
  pub built : IsBuilt z
  pub lower : folded n ≡ n
  pub stands : exists z n ≡ true

-- RFC 2181 5: the set is the RRset of its type at the node's name. It has at most 64 records.
pub record IsSetOf (node : ZoneNode) (set : RecordSet) : Type 0 where
  pub records : records_at node.name set.ttl set ≡ rrset node.zone node.name set.rtype
  pub few : length set.rdata ≤ 64
  pub ttl : set.ttl ≤ most_ttl
  pub valid : HasValidData set
