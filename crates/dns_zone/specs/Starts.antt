-- How far a name is below another, and where its labels begin in its wire form.
use Rattle.std.specs.Prelude.{◌≡◌, ℕ, ◌+◌, ◌<◌, ◌≤◌, true, List, length, drop, get_or}
use Rattle.dns_spec.specs.Names.{Octets, DomainName, at_or_below}
use Rattle.dns_name.specs.WireForm.{labels_of, IsWireForm}
use Rattle.dns_zone.specs.declared.tree.sought.Sought.{Sought}

-- the name is at or below `ancestor`, and has `depth` labels more
pub record IsBelow (s : Sought) (ancestor : DomainName) : Type 0 where
  pub below : at_or_below s.name ancestor ≡ true
  pub labels : length s.name ≡ length ancestor + s.depth
  pub few : length s.name ≤ 127

-- the wire form of the labels after the first k begins at the offset `place`
pub record BeginsAt (octets : Octets) (k place : ℕ) : Type 0 where
  pub inside : place < length octets
  pub form : IsWireForm (drop place octets)
  pub labels : labels_of (drop place octets) ≡ drop k (labels_of octets)

-- the offsets at which the first `count` labels begin
abbrev pub AreStarts : Octets → ℕ → List ℕ → Type 0
AreStarts octets count starts = (k : ℕ) → k < count → BeginsAt octets k (get_or starts k 0)
