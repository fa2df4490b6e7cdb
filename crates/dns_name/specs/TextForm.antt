-- How the text of a name is read from left to right, case by case as in the code.
use Rattle.std.specs.Prelude.{◌≡◌, ℕ, ◌-◌, ◌<◌, Bool, true, ◌⊎◌, ◌||◌, ◌&&◌, ◌==◌, nat_lt, nat_le, if◌then◌else◌, [], ◌∷◌, ◌++◌, length, take, Option, Some, None, Result, Ok, Err, ◌↔◌}
use Rattle.std.specs.Bool.{MatchBool}
use Rattle.std.specs.Borrow.{Bor}
use Rattle.std.specs.Char.{is_ascii_digit}
use Rattle.std.specs.List.{list_all}
use Rattle.dns_spec.specs.Names.{Octets, DomainName, wire, is_label, is_name, folded}
use Rattle.dns_spec.specs.NameText.{LabelThen, TextSpells, SpellsName, escape_front, name_fault}

-- a function returned the value and the remaining text that a definition gives, the text borrowed
abbrev pub Gives : Option (ℕ × Bor Octets) → Option (ℕ × Octets) → Type 0
Gives None read = read ≡ None
Gives (Some x) read = read ≡ Some (x.0, x.1.now)

-- a digit's value, and the text after it
abbrev pub digit_at : Octets → Option (ℕ × Octets)
digit_at [] = None
digit_at (a ∷ rest) = if is_ascii_digit a then Some (a - 48, rest) else None

abbrev pub octet_of : ℕ → Octets → Option (ℕ × Octets)
octet_of value rest = if nat_lt value 256 then Some (value, rest) else None

-- the octet that the text begins with
unfoldable pub octet_at : Octets → Option (ℕ × Octets)
octet_at [] = None
octet_at (a ∷ rest) = if a == 92 then escape_front rest else Some (a, rest)

-- a dot or a backslash: octets that never spell themselves
abbrev pub is_mark : ℕ → Bool
is_mark a = a == 46 || a == 92

-- the text of a label ends here: the text is empty or begins with a dot
abbrev pub is_label_end : Octets → Bool
is_label_end [] = true
is_label_end (a ∷ rest) = a == 46

-- if `fits` is true, new is old with labels added next to the root, and is a valid name; otherwise
-- that name would be too long
abbrev pub Appended : DomainName → DomainName → Bool → DomainName → Type 0
Appended old labels fits new =
    MatchBool fits ((new ≡ old ++ labels) × (is_name new ≡ true))
    (255 < length (wire (old ++ labels)))

-- the text begins with the spelling of a label, `octets` are the first 64 octets of the label, and
-- `end` is the text after it
pub record ReadsLabel (text octets end : Octets) : Type 0 where
  pub label : Octets
  pub spelled : LabelThen text label end
  pub kept : octets ≡ take 64 label

-- a label was read up to its end, and added to the name `old` if it fits
pub record PushesLabel (text : Octets) (old : DomainName) (fits : Bool) (end : Octets)
    (new : DomainName) : Type 0 where
  pub label : Octets
  pub spelled : LabelThen text label end
  pub at_end : is_label_end end ≡ true
  pub is_label : is_label label ≡ true
  pub appended : Appended old (label ∷ []) fits new

-- the octets are too few or too many for a label: the fault is 1 if there are no octets, and 2 if
-- there are more than 63
abbrev pub IsNoLength : Octets → ℕ → Type 0
IsNoLength octets fault =
    ((octets ≡ []) × (fault ≡ 1)) ⊎ ((63 < length octets) × (fault ≡ 2))

-- the text does not begin with a valid label, and has this fault
pub record HasFault (text : Octets) (fault : ℕ) : Type 0 where
  pub none : (l end : Octets)
      → LabelThen text l end → is_label_end end ≡ true → is_label l ≡ true → ⊥
  pub fault_is : name_fault text ≡ fault

-- the result is the name that the word spells, if it spells one
abbrev pub SpellsIff : {E : Type 0} → DomainName → Octets → Result DomainName E → Type 0
SpellsIff origin word r =
    (n : DomainName) → (r ≡ Ok n) ↔ ((is_name n ≡ true) × TextSpells origin word n)

-- the result of a call that sets a name in place, together with that name
abbrev pub spelled_as : {A E : Type 0} → Result A E → DomainName → Result DomainName E
spelled_as (Ok done) name = Ok name
spelled_as (Err fault) name = Err fault

-- the name in lower case that the word spells
abbrev pub SpellsFolded : DomainName → Octets → DomainName → Type 0
SpellsFolded origin word m = (n : DomainName) × SpellsName origin word n × (m ≡ folded n)

-- a text without escapes is the first label's octets, and each other label's octets after a dot
abbrev pub IsPlain : Octets → Octets → DomainName → Type 0
IsPlain text l [] = LabelThen text l []
IsPlain text l (m ∷ n) =
    (others : Octets) × LabelThen text l (46 ∷ others) × IsPlain others m n

-- a label may have this number of octets
abbrev pub is_length : ℕ → Bool
is_length count = nat_lt 0 count && nat_le count 63

-- octets are the labels of a text without escapes, in lower case, each after its length
pub record HasLengths (text octets : Octets) : Type 0 where
  pub first : Octets
  pub others : DomainName
  pub plain : IsPlain text first others
  pub labels : list_all is_label (first ∷ others) ≡ true
  pub written : octets ++ 0 ∷ [] ≡ wire (folded (first ∷ others))

-- the word is the labels and a final dot, or the labels alone, which the origin follows; `end` is
-- the wire form of what follows the labels
pub record IsEnded (origin : DomainName) (word labels end : Octets) : Type 0 where
  pub above : DomainName
  pub spelled : ((word ≡ labels ++ 46 ∷ []) × (above ≡ [])) ⊎ ((word ≡ labels) × (above ≡ origin))
  pub wire_is : end ≡ wire above
  pub is_name : is_name above ≡ true
