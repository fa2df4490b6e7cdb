-- Names in zone files: which name a word spells, and how a name is written.
use Rattle.std.specs.Prelude.{◌≡◌, ◌≢◌, ℕ, zero, suc, ◌+◌, ◌-◌, ◌*◌, ◌/◌, ◌%◌, ◌<◌, ◌≤◌, ◌⊎◌, Bool, true, false, ◌&&◌, ◌==◌, nat_le, nat_lt, if◌then◌else◌, [], ◌∷◌, ◌++◌, codes, length, IsTrue}
use Rattle.std.specs.Prelude.{Option, None, Some}
use Rattle.std.specs.Option.{option_map}
use Rattle.std.specs.List.{flat_map, list_any}
use Rattle.std.specs.Char.{is_ascii_graphic, is_ascii_digit, IsAsciiDigit, IsNotAsciiDigit}
use Rattle.dns_spec.specs.Names.{Octets, DomainName, is_name}

-- the value of three decimal digits
abbrev pub three_digits_value : ℕ → ℕ → ℕ → ℕ
three_digits_value a b c = 100 * (a - 48) + 10 * (b - 48) + (c - 48)

-- RFC 1035 5.1: an octet is spelled as itself, unless it is a dot or a backslash; as `\X`, where X
-- is not a digit (and, in this product, is printable); or as `\DDD`, its value in three decimal
-- digits.
abbrev pub SpellsOctet : Octets → ℕ → Type 0
SpellsOctet (a ∷ []) x = (a ≡ x) × (a ≢ 46) × (a ≢ 92)
SpellsOctet (e ∷ a ∷ []) x = (e ≡ 92) × (a ≡ x) × (32 ≤ a) × (a ≤ 126) × IsNotAsciiDigit a
SpellsOctet (e ∷ a ∷ b ∷ c ∷ []) x =
    (e ≡ 92) × IsAsciiDigit a × IsAsciiDigit b × IsAsciiDigit c
    × (three_digits_value a b c ≡ x) × (x < 256)
SpellsOctet _ x = ⊥

-- a graphic octet or a space
abbrev pub is_printable : ℕ → Bool
is_printable o = nat_le 32 o && nat_le o 126

-- if the text begins with three decimal digits of a value up to 255: that octet, and the text
-- after them
abbrev pub digits_front : Octets → Option (ℕ × Octets)
digits_front [] = None
digits_front (a ∷ []) = None
digits_front (a ∷ b ∷ []) = None
digits_front (a ∷ b ∷ c ∷ text) =
    if is_ascii_digit a && is_ascii_digit b && is_ascii_digit c
    && nat_lt (three_digits_value a b c) 256
    then Some (three_digits_value a b c, text) else None

-- RFC 1035 5.1: the octet that an escape spells and the text after the escape; the given text
-- follows the backslash. Three digits up to 255 spell the octet of that value, and a printable
-- octet that is not a digit spells itself. Nothing else is an escape.
abbrev pub escape_front : Octets → Option (ℕ × Octets)
escape_front [] = None
escape_front (a ∷ text) =
    if is_ascii_digit a then digits_front (a ∷ text)
    else if is_printable a then Some (a, text) else None

-- for the text after a backslash: how many of its octets belong to the escape, if there is an
-- escape
abbrev pub escape_left : Octets → Option ℕ
escape_left text = option_map (λ r. length text - length r.1) (escape_front text)

-- the text is a spelling of the label's octets, in order, followed by `rest`
abbrev pub LabelThen : Octets → Octets → Octets → Type 0
LabelThen text [] rest = text ≡ rest
LabelThen text (x ∷ l) rest =
    (first : Octets) × (others : Octets) × (text ≡ first ++ others)
    × SpellsOctet first x × LabelThen others l rest

-- RFC 1035 5.1: the text spells the first label and either ends there, so that the labels of the
-- origin follow; or continues with a dot, and the text after it spells the other labels. An empty
-- text after a dot is the root.
abbrev pub TextSpells : DomainName → Octets → DomainName → Type 0
TextSpells origin text [] = text ≡ []
TextSpells origin text (l ∷ n) =
    (LabelThen text l [] × (n ≡ origin))
    ⊎ ((others : Octets) × LabelThen text l (46 ∷ others) × TextSpells origin others n)

-- RFC 1035 5.1: a word spells a name, relative to the origin. `@` alone is the origin, and `.`
-- alone is the root.
pub record SpellsName (origin : DomainName) (word : Octets) (n : DomainName) : Type 0 where
  pub spelled : ((word ≡ codes "@") × (n ≡ origin))
      ⊎ (((word ≡ codes ".") × (n ≡ []))
      ⊎ ((word ≢ codes "@") × (word ≢ []) × TextSpells origin word n))
  pub is_name : IsTrue (is_name n)

-- RFC 1035 5.1 and 2.3.4: the fault of the first faulty label of a text: 4 if a backslash in the
-- label begins no escape; else 1 if the label is empty, or 2 if it has more than 63 octets. 3 if no
-- label is faulty. The empty text after a final dot is not a label. The text continues a label that
-- has i octets so far, and its first k octets belong to the current escape.
unfoldable pub labels_fault : ℕ → ℕ → Octets → ℕ
labels_fault k i [] = if nat_lt 63 i then 2 else 3
labels_fault (suc k) i (o ∷ text) = labels_fault k i text
labels_fault zero i (o ∷ text) =
    elim (o == 46) [
      | true ↦ if i == 0 then 1 else (if nat_lt 63 i then 2 else labels_fault 0 0 text)
      | false ↦ elim (if o == 92 then escape_left text else Some 0) [
        | None ↦ 4
        | Some left ↦ labels_fault left (suc i) text
      ]
    ]

-- The fault of a word that spells no name, 1 to 4: the fault of its first faulty label, from the
-- left; or 3, the name is too long, if no label is faulty. The empty word is an empty label.
abbrev pub name_fault : Octets → ℕ
name_fault [] = 1
name_fault (o ∷ word) = labels_fault 0 0 (o ∷ word)

-- the octets with a meaning of their own in a zone file, unless a backslash precedes them
abbrev pub is_special : ℕ → Bool
is_special x = list_any (λ s. x == s) (codes "\"$().;@\\")

-- the value of an octet in three decimal digits
abbrev pub three_digits : ℕ → Octets
three_digits x = (48 + x / 100) ∷ (48 + x / 10 % 10) ∷ (48 + x % 10) ∷ []

-- RFC 1035 5.1: how an octet of a label is written: a special octet as `\X`, another graphic octet
-- as itself, and any other octet as `\DDD`
unfoldable pub octet_text : ℕ → Octets
octet_text x =
    if is_special x then 92 ∷ x ∷ []
    else (if is_ascii_graphic x then x ∷ [] else 92 ∷ three_digits x)

-- the text of a label
abbrev pub label_text : Octets → Octets
label_text = flat_map octet_text

-- each label followed by a dot
abbrev pub labels_text : DomainName → Octets
labels_text = flat_map (λ l. label_text l ++ codes ".")

-- RFC 1035 5.1: a name is written as its labels, each followed by a dot, and the root as `.`
abbrev pub name_text : DomainName → Octets
name_text [] = codes "."
name_text (l ∷ n) = labels_text (l ∷ n)
