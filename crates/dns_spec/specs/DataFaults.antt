-- The fault of words that spell no data: its number, 1 to 7. The numbers, and the order in which
-- faults are looked for, are this project's choice.
use Rattle.std.specs.Prelude.{◌≡◌, ℕ, ◌+◌, ◌≤◌, ◌⊎◌, false, List, [], ◌∷◌, length, nat_le, ◌==◌, MatchOption}
use Rattle.std.specs.Bool.{MatchBool}
use Rattle.dns_spec.specs.Names.{Octets, DomainName}
use Rattle.dns_spec.specs.Data.{Field, number, ipv4, ipv6, domain, string, strings, anything, valid}
use Rattle.dns_spec.specs.DataText.{Word, SaysWord, word_fields_of, SaysUnknown, is_unknown_mark}

-- the fault of a word that does not spell its field: 2 if the field is a number, 3 if it is an
-- address, 4 if it is a name, and 5 if it is a string
abbrev pub field_fault : Field → ℕ
field_fault (number k) = 2
field_fault ipv4 = 3
field_fault ipv6 = 3
field_fault domain = 4
field_fault string = 5
field_fault strings = 5
field_fault anything = 5

-- k is the fault of the first faulty word from the left: one that does not spell its field, or, as
-- fault 5, one that makes the data longer than 65,535 octets (RFC 1035 3.2.1). The words before
-- `ws` spell n octets.
abbrev pub FieldsFaultIs : List Field → DomainName → ℕ → List Word → ℕ → Type 0
FieldsFaultIs [] origin n ws k = ⊥
FieldsFaultIs (f ∷ fs) origin n [] k = ⊥
FieldsFaultIs (f ∷ fs) origin n (w ∷ ws) k =
    (((d : Octets) → SaysWord f origin w d → ⊥) × (k ≡ field_fault f))
    ⊎ ((d : Octets) × SaysWord f origin w d
    × MatchBool (nat_le (n + length d) 65535)
    (FieldsFaultIs fs origin (n + length d) ws k) (k ≡ 5))

-- The fault of words in the type's own form: 6 if the type has no such form; 1 if the number of
-- words is wrong; else the fault of the first faulty word.
abbrev pub TypedFaultIs : ℕ → DomainName → List Word → ℕ → Type 0
TypedFaultIs t origin ws k =
    MatchOption (word_fields_of t (length ws)) (k ≡ 6)
    (λ fs. MatchBool (length fs == length ws) (FieldsFaultIs fs origin 0 ws k) (k ≡ 1))

-- RFC 3597 section 5: the fault of the words after `\#`: 6 if they do not state a length of at most
-- 65,535 and then that many octets; 7 if they do, but these octets are invalid for the type
abbrev pub UnknownFaultIs : ℕ → List Word → ℕ → Type 0
UnknownFaultIs t ws k =
    (((d : Octets) → SaysUnknown ws d → length d ≤ 65535 → ⊥) × (k ≡ 6))
    ⊎ ((d : Octets) × SaysUnknown ws d × (length d ≤ 65535) × (valid t d ≡ false) × (k ≡ 7))

-- The fault of words that spell no data of the type, with names relative to the origin.
abbrev pub DataFaultIs : ℕ → List Word → DomainName → ℕ → Type 0
DataFaultIs t [] origin k = TypedFaultIs t origin [] k
DataFaultIs t (w ∷ ws) origin k =
    MatchBool (is_unknown_mark w) (UnknownFaultIs t ws k) (TypedFaultIs t origin (w ∷ ws) k)
