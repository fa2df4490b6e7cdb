-- Which addresses are offered for targets, one target after another.
use Rattle.std.specs.Prelude.{◌≡◌, ℕ, ◌-◌, Bool, true, ◌&&◌, not, sum, List, [], ◌∷◌, ◌++◌, map, length, take, get_or, if◌then◌else◌}
use Rattle.std.specs.Prelude.{Option, None, Some}
use Rattle.std.specs.List.{list_any, filter, filter_map}
use Rattle.dns_spec.specs.Names.{Octets, DomainName, same, at_or_below}
use Rattle.dns_spec.specs.Data.{type_a, type_aaaa, target}
use Rattle.dns_spec.specs.Records.{ZoneContents, rrset}
use Rattle.dns_spec.specs.Sets.{RecordSet}
use Rattle.dns_spec.specs.Layout.{Item, additional}
use Rattle.dns_spec.specs.Answer.{item, targets_in_zone}
use Rattle.dns_answer.specs.declared.addresses.Side.{Side}
use Rattle.dns_answer.specs.declared.addresses.Side.TheVariants.{All, Inside, Outside}

-- the targets of a set
abbrev pub set_targets : RecordSet → List DomainName
set_targets set = filter_map (λ (d : Octets). target set.rtype d) set.rdata

-- the targets of the first k records of a set
abbrev pub targets_of_first : ℕ → RecordSet → List DomainName
targets_of_first k set = filter_map (λ (d : Octets). target set.rtype d) (take k set.rdata)

-- the target of record i of a set
abbrev pub target_at : ℕ → RecordSet → Option DomainName
target_at i set = target set.rtype (get_or set.rdata i [])

abbrev pub side_takes : Side → DomainName → Bool
side_takes All m = true
side_takes (Inside cut) m = at_or_below m cut.now
side_takes (Outside cut) m = not (at_or_below m cut.now)

-- each name of the zone that passes the test is at or below the name at which the paths begin
abbrev pub Reaches : ZoneContents → DomainName → (DomainName → Bool) → Type 0
Reaches z start p =
    (m : DomainName) → p m ≡ true → at_or_below m z.origin ≡ true → at_or_below m start ≡ true

-- the target, if there is one, passes the test
abbrev pub takes_target : (DomainName → Bool) → Option DomainName → Bool
takes_target p None = true
takes_target p (Some m) = p m

-- the addresses of a name: A and then AAAA
abbrev pub addresses_of : ZoneContents → DomainName → List Item
addresses_of z m = item additional (rrset z m type_a) ++ item additional (rrset z m type_aaaa)

-- the addresses of a target that passes the test and is not among the targets before it
abbrev pub target_items : ZoneContents → (DomainName → Bool) → List DomainName → Option DomainName
    → List Item
target_items z p before None = []
target_items z p before (Some m) = if p m && not (list_any (same m) before) then addresses_of z m
    else []

-- the addresses of the targets that pass the test, in order
unfoldable pub side_items : ZoneContents → (DomainName → Bool) → List DomainName → List DomainName
    → List Item
side_items z p before [] = []
side_items z p before (m ∷ ms) = target_items z p before (Some m)
    ++ side_items z p (before ++ m ∷ []) ms

-- the number of nodes below the apex on the paths to the targets that pass the test and are in the
-- zone
abbrev pub side_nodes : ZoneContents → (DomainName → Bool) → List DomainName → ℕ
side_nodes z p ms = sum (map (λ m. length m - length z.origin) (targets_in_zone z (filter p ms)))

-- the number of nodes below the apex on the path to a name, which is 0 outside the zone
abbrev pub depth_in : ZoneContents → DomainName → ℕ
depth_in z m = if at_or_below m z.origin then length m - length z.origin else 0

-- the number of nodes below the apex on the path to a target that passes the test, or else 0
abbrev pub target_nodes : ZoneContents → (DomainName → Bool) → Option DomainName → ℕ
target_nodes z p None = 0
target_nodes z p (Some m) = if p m && at_or_below m z.origin then length m - length z.origin else 0

-- the most children that are missing on the path to a target: one, if the target passes the test
abbrev pub target_misses : (DomainName → Bool) → Option DomainName → ℕ
target_misses p None = 0
target_misses p (Some m) = if p m then 1 else 0
