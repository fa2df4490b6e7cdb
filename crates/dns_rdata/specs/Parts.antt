-- Which part of the definitions a borrowed part of data represents.
use Rattle.std.specs.Prelude.{◌≡◌, ⊤, ℕ, ◌+◌, List, [], ◌∷◌, Option, Some, None, IsTrue}
use Rattle.std.specs.Borrow.{Bor}
use Rattle.std.specs.Option.{unwrap_or, is_some, option_map}
use Rattle.dns_spec.specs.Names.{Octets, is_name}
use Rattle.dns_spec.specs.Data.{number, domain, octets, name, part_octets, part_folded, cut}
use Rattle.dns_spec.specs.Data as Data
use Rattle.dns_name.specs.WireForm.{labels_of, IsWireForm}
use Rattle.dns_rdata.specs.declared.table.Field.{Field}
use Rattle.dns_rdata.specs.TypeRows.{fields_in}
use Rattle.dns_rdata.specs.declared.parts.Part.{Part}
use Rattle.dns_rdata.specs.declared.parts.Part.TheVariants.{Octets as Run, Name}

-- a run of octets, or the name of which the octets are the wire form
abbrev pub part_for : Part → Data.Part
part_for (Run o) = octets o.now
part_for (Name o) = name (labels_of o.now)

-- the octets that a part borrows
abbrev pub borrowed_octets : Part → Octets
borrowed_octets (Run o) = o.now
borrowed_octets (Name o) = o.now

-- if the part is a name, its octets are the wire form of a name
abbrev pub IsWirePart : Part → Type 0
IsWirePart (Run o) = ⊤
IsWirePart (Name o) = IsWireForm o.now

-- a function returned the part that a definition cuts from octets, and the octets after it
abbrev pub Cuts : Option (Part × Bor Octets) → Option (Data.Part × Octets) → Type 0
Cuts None read = read ≡ None
Cuts (Some x) read = (read ≡ Some (part_for x.0, x.1.now)) × IsWirePart x.0

-- a part with its octets, for a borrowed part and for a part of the definitions
abbrev pub shown_part : Part → Data.Part × Octets
shown_part x = (part_for x, borrowed_octets x)

abbrev pub with_octets : Data.Part → Data.Part × Octets
with_octets p = (p, part_octets p)

-- the parts that the remaining fields cut from the octets
abbrev pub parts_left : List Field → Octets → List Data.Part
parts_left fs os = unwrap_or (cut (fields_in fs) os) []

abbrev pub AreCut : List Field → Octets → Type 0
AreCut fs os = IsTrue (is_some (cut (fields_in fs) os))

abbrev pub PartList : Type 0
PartList = List Data.Part

-- if the part is a name, it is valid
abbrev pub HasName : Data.Part → Type 0
HasName (octets o) = ⊤
HasName (name n) = IsTrue (is_name n)

-- the number of octets before a name that is the last field, if all fields before it are numbers
abbrev pub before_name : List Data.Field → Option ℕ
before_name (number k ∷ fs) = option_map (λ j. k + j) (before_name fs)
before_name (domain ∷ []) = Some 0
before_name _ = None
