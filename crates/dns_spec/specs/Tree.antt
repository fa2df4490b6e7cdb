-- Which names of a zone exist, which are zone cuts, the closest encloser of a missing name, and the
-- records found for a name, its own or those of a wildcard.
use Rattle.std.specs.Prelude.{Bool, ◌&&◌, List, [], ◌∷◌, reverse, if◌then◌else◌}
use Rattle.std.specs.Prelude.{Option, None, Some}
use Rattle.std.specs.Option.{option_map, option_and_then}
use Rattle.std.specs.List.{list_any, find}
use Rattle.dns_spec.specs.Names.{Octets, DomainName, folded, at_or_below, below, suffixes}
use Rattle.dns_spec.specs.Data.{type_ns}
use Rattle.dns_spec.specs.Records.{ResourceRecord, ZoneContents, at, owns, with_owner}

-- RFC 4592 2.2: a name exists if it or a name below it owns a record
abbrev pub exists : ZoneContents → DomainName → Bool
exists z n = list_any (λ (r : ResourceRecord). at_or_below r.owner n) z.records

-- RFC 1034 4.2: a zone cut is a name below the origin that owns NS records
abbrev pub is_cut : ZoneContents → DomainName → Bool
is_cut z n = below n z.origin && owns z n type_ns

-- a list without its first element
abbrev pub without_first : {X : Type 0} → List X → List X
without_first [] = []
without_first (x ∷ xs) = xs

-- the names above a name, nearest first, in lower case as the names of a zone are
abbrev pub ancestors : DomainName → List DomainName
ancestors n = without_first (suffixes (folded n))

-- RFC 1034 4.3.2 step 3b: of the cuts that the name is at or below, the one with the fewest labels
abbrev pub cut_of : ZoneContents → DomainName → Option DomainName
cut_of z q = find (is_cut z) (reverse (suffixes (folded q)))

-- RFC 4592 3.3.1: of the existing names that the name is below, the one with the most labels
abbrev pub closest_encloser : ZoneContents → DomainName → Option DomainName
closest_encloser z q = find (exists z) (ancestors q)

-- RFC 4592 2.1.1: the label of a wildcard is `*`
abbrev pub asterisk : Octets
asterisk = 42 ∷ []

-- RFC 4592 3.3.1: the wildcard directly below the closest encloser, if it exists
abbrev pub source_of_synthesis : ZoneContents → DomainName → Option DomainName
source_of_synthesis z q =
    option_and_then (λ e. if exists z (asterisk ∷ e) then Some (asterisk ∷ e) else None)
    (closest_encloser z q)

-- RFC 1034 4.3.2 steps 3a and 3c: the records found for a name, with that name as owner: its own
-- records if it exists (there may be none), else the records of the source of synthesis. `None` is
-- a name error.
abbrev pub found : ZoneContents → DomainName → Option (List ResourceRecord)
found z q =
    if exists z q then Some (with_owner q (at z q))
    else option_map (λ w. with_owner q (at z w)) (source_of_synthesis z q)
