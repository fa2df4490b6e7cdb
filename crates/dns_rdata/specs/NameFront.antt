-- When octets begin with the labels of a name.
use Rattle.std.specs.Prelude.{◌≡◌, true, ◌++◌}
use Rattle.std.specs.List.{list_all}
use Rattle.dns_spec.specs.Names.{Octets, DomainName, wire, is_label}

-- the octets are labels and the root's length 0, followed by `after`
pub record StandsAfterLabels (octets after : Octets) : Type 0 where
  pub labels : DomainName
  pub are_labels : list_all is_label labels ≡ true
  pub whole : octets ≡ wire labels ++ after

-- the octets do not begin with labels and the root's length 0
abbrev pub HasNoLabels : Octets → Type 0
HasNoLabels octets = (after : Octets) → StandsAfterLabels octets after → ⊥
