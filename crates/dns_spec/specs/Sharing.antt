-- The sizes that RFC 1035 4.1.4 allows for a reply, if each name is written whole or shares any
-- suffix that an earlier name has. Up to 16,384 octets, the layout has the least of these sizes; in
-- longer replies, some places are beyond the reach of a pointer.
use Rattle.std.specs.Prelude.{◌≡◌, ℕ, List, IsTrue}
use Rattle.std.specs.Prelude.{Option, Some}
use Rattle.std.specs.List.{list_any}
use Rattle.dns_spec.specs.Names.{DomainName}
use Rattle.dns_spec.specs.Reading.{MessageQuestion}
use Rattle.dns_spec.specs.Layout.{Item, Lookup, Placed, has_suffix}
use Rattle.dns_spec.specs.LayoutSize.{size_by}

-- `find` chooses what each name shares, if anything: it gives a place only for a suffix that an
-- earlier name has, octet by octet. It may choose differently for each name, since the list of
-- earlier names grows with each name.
abbrev pub IsLawful : Lookup → Type 0
IsLawful find =
    (ms : List Placed) (s : DomainName) (p : ℕ) → find ms s ≡ Some p
    → IsTrue (list_any (λ (m : Placed). has_suffix m.0 s) ms)

-- a size that a reply with these sets may have
pub record Sharing (q : Option MessageQuestion) (items : List Item) (z : ℕ) : Type 0 where
  pub find : Lookup
  pub lawful : IsLawful find
  pub whole : z ≡ size_by find q items
