-- Which offsets a writer keeps for the suffixes of names, and what it means to find such an offset.
use Rattle.std.specs.Prelude.{◌≡◌, ℕ, ◌<◌, ◌≤◌, List, length, take, drop, slice_get, Some, IsTrue}
use Rattle.dns_spec.specs.Names.{Octets, DomainName, wire, is_name}
use Rattle.dns_spec.specs.NamesInMessages.{RunAt}

-- an offset, and the number of the suffix at that offset
pub record Kept : Type 0 where
  pub offset : ℕ
  pub number : ℕ

-- this offset is kept with this number
abbrev pub IsKept : List Kept → ℕ → ℕ → Type 0
IsKept ks p h = (k : ℕ) × (slice_get ks k ≡ Some (record { offset = p; number = h }))

-- this offset is kept, with any number
abbrev pub HasOffset : List Kept → ℕ → Type 0
HasOffset ks p = (h : ℕ) × IsKept ks p h

-- `SpelledFrom`: from offset i on, in a run that began at offset s, the message b spells the name
-- with the wire form o. `SpelledAt`: a run that begins at offset p spells it.
abbrev pub SpelledFrom : Octets → ℕ → ℕ → Octets → Type 0
SpelledFrom b s i o = (n : DomainName) × (e : ℕ) × RunAt b s i n e × (wire n ≡ o)

abbrev pub SpelledAt : Octets → ℕ → Octets → Type 0
SpelledAt b p o = SpelledFrom b p p o

-- if octets are the wire form of a name, the name is spelled at this offset
abbrev pub SpellsSuffix : Octets → ℕ → Octets → Type 0
SpellsSuffix b p o = (n : DomainName) → o ≡ wire n → IsTrue (is_name n) → SpelledAt b p o

-- a pointer to an offset may replace a suffix: the offset is kept, and the message spells the
-- suffix there
pub record IsSharedAt (ks : List Kept) (b o : Octets) (p : ℕ) : Type 0 where
  pub kept : HasOffset ks p
  pub spelled : SpellsSuffix b p o
  pub reached : p < 16384

-- these octets are in the message from this offset on
abbrev pub HasAt : Octets → ℕ → Octets → Type 0
HasAt b p o = (p ≤ length b) × (take (length o) (drop p b) ≡ o)

-- the message spells the suffix at no offset that is kept with this number
abbrev pub NoneSpelled : List Kept → ℕ → Octets → Octets → Type 0
NoneSpelled ks h b o = (p : ℕ) → IsKept ks p h → SpelledAt b p o → ⊥
