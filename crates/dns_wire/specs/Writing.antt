-- How a writer lays out a name, which offsets it keeps for later names, and what must hold for
-- these offsets and for the octets written so far, so that later names share correctly.
use Rattle.std.specs.Prelude.{◌≡◌, ℕ, zero, suc, Bool, IsFalse, IfSome, ◌+◌, ◌<◌, ◌≤◌, List, [], ◌∷◌, ◌++◌, ◌-◌, length, take, drop, nat_le, IsTrue, if◌then◌else◌}
use Rattle.std.specs.Prelude.{Option, None, Some}
use Rattle.dns_spec.specs.Names.{Octets, DomainName, wire, is_name}
use Rattle.dns_spec.specs.Data.{laid_parts}
use Rattle.dns_spec.specs.Records.{ResourceRecord}
use Rattle.dns_spec.specs.NamesInMessages.{RunAt}
use Rattle.dns_spec.specs.Layout.{Placed, Laid, laid_front, data_laid, record_laid, record_tail, pointer, place_of, last_place, shared_octets, shared_place}
use Rattle.dns_name.specs.WireForm.{labels_of, IsWireForm}
use Rattle.dns_wire.specs.declared.suffixes.NameForm.{NameForm}
use Rattle.dns_wire.specs.Kept.{Kept, IsKept, SpelledAt}

-- octets begin with a length k other than 0, and `after` is what follows the next k octets
pub record AfterLabel (octets : Octets) (k : ℕ) (after : Octets) : Type 0 where
  pub others : Octets
  pub first : octets ≡ k ∷ others
  pub some : k ≡ 0 → ⊥
  pub fits : k ≤ length others
  pub cut : after ≡ drop k others

-- the number of octets of a name's labels before the suffix that it shares
unfoldable pub front_size : List Placed → DomainName → ℕ
front_size ms [] = 0
front_size ms (l ∷ n) =
    elim (shared_place ms (l ∷ n)) [ None ↦ 1 + length l + front_size ms n | Some p ↦ 0 ]

-- the offset of the suffix that a name shares, if it shares one
unfoldable pub pointed_offset : List Placed → DomainName → Option ℕ
pointed_offset ms [] = None
pointed_offset ms (l ∷ n) =
    elim (shared_place ms (l ∷ n)) [ None ↦ pointed_offset ms n | Some p ↦ Some p ]

-- how a name is laid out: the number of octets of its labels before the suffix that it shares, and
-- the offset of that suffix
abbrev pub Form : Type 0
Form = ℕ × Option ℕ

abbrev pub shown_form : NameForm → Form
shown_form form = (form.front, form.pointer)

abbrev pub IsLaid : List Placed → DomainName → Form → Type 0
IsLaid ms n form = (front_size ms n ≡ form.0) × (pointed_offset ms n ≡ form.1)

-- the octets are long enough for the form, and a pointer reaches its offset
pub record IsForm (o : Octets) (form : Form) : Type 0 where
  pub inside : form.0 ≤ length o
  pub reached : IfSome form.1 (λ p. p < 16384)

-- How a name is laid out again, after it was laid out in this form at an offset: as a pointer to
-- that offset, if some of its labels are written there and a pointer reaches the offset; otherwise
-- in the same form.
abbrev pub form_again : ℕ → Form → Form
form_again at (zero, p) = (zero, p)
form_again at (suc k, p) = if nat_le at last_place then (zero, Some at) else (suc k, p)

-- unless the record is the first of its set, its owner n is laid out in this form
abbrev pub IsLaidAs : DomainName → Bool → Form → List Placed → Type 0
IsLaidAs n first form ms = IsFalse first → IsLaid ms n form

-- the octets that end a name: the root's length, or a pointer
abbrev pub end_octets : Option ℕ → Octets
end_octets None = 0 ∷ []
end_octets (Some p) = pointer p

-- the offsets that are kept of a name laid out from offset p on: the offsets where its suffixes
-- begin before the shared one, as far as a pointer reaches
unfoldable pub new_offsets : (Octets → ℕ) → List Placed → DomainName → ℕ → List Kept
new_offsets number ms [] p = []
new_offsets number ms (l ∷ n) p = elim (shared_place ms (l ∷ n)) [
  | None ↦ if nat_le p last_place
      then record { offset = p; number = number (wire (l ∷ n)) }
      ∷ new_offsets number ms n (p + 1 + length l)
      else []
  | Some q ↦ []
]

-- the octets of the question's name, which ends at offset a; none if the header ends there
abbrev pub name_before : Octets → ℕ → Octets
name_before b a = take (a - 12) (drop 12 b)

-- The question's name ends at offset a; or the header ends there, and no question is written.
pub record IsAsked (b : Octets) (a : ℕ) : Type 0 where
  pub after : 12 ≤ a
  pub inside : a ≤ length b
  pub near : a ≤ 267
  pub name : 12 < a → IsWireForm (name_before b a)

-- the offsets of the suffixes of the question's name, each with the number of the suffix
unfoldable pub asked_offsets : (Octets → ℕ) → Octets → ℕ → List Kept
asked_offsets number b a = new_offsets number [] (labels_of (name_before b a)) 12

-- the message spells these octets at no offset of the question's name
abbrev pub NotAsked : Octets → ℕ → Octets → Type 0
NotAsked b a o =
    (number : Octets → ℕ) (p h : ℕ) → IsKept (asked_offsets number b a) p h → SpelledAt b p o → ⊥

-- if the octets are the wire form of a name, `last` is the wire form of a suffix of it
abbrev pub IsLastOf : Octets → Octets → Type 0
IsLastOf o last = (n : DomainName) → o ≡ wire n → IsTrue (is_name n)
    → (front : DomainName) × (n' : DomainName) × (n ≡ front ++ n') × (last ≡ wire n')

-- The offsets in `ks` are exactly those at which suffixes of the names `ms` can be shared, each
-- with the number of its suffix.
pub record Answers (number : Octets → ℕ) (ms : List Placed) (ks : List Kept) : Type 0 where
  pub complete : (l : Octets) (n : DomainName) (p : ℕ) → shared_place ms (l ∷ n) ≡ Some p
      → IsKept ks p (number (wire (l ∷ n)))
  pub sound : (p h : ℕ) → IsKept ks p h
      → (l : Octets) × (n : DomainName) × (shared_place ms (l ∷ n) ≡ Some p)
      × IsTrue (is_name (l ∷ n))

-- At each offset where a suffix can be shared, the message b spells that suffix. The offsets of all
-- names are in the message.
pub record Holds (number : Octets → ℕ) (ms : List Placed) (b : Octets) (ks : List Kept)
    : Type 0 where
  pub spelled : (l : Octets) (n : DomainName) (p : ℕ) → shared_place ms (l ∷ n) ≡ Some p
      → (12 ≤ p) × (p < length b) × (e : ℕ) × RunAt b p p (l ∷ n) e
  pub before : (l : Octets) (n : DomainName) (p : ℕ) → place_of ms (l ∷ n) ≡ Some p → p < length b
  pub after_header : 12 ≤ length b
  pub answers : Answers number ms ks

-- ys is xs with more elements at the end
pub record Follows {A : Type 0} (xs ys : List A) : Type 0 where
  pub more : List A
  pub whole : ys ≡ xs ++ more

-- how something is laid out from an offset on, after earlier names
abbrev pub Layout : Type 0
Layout = List Placed → ℕ → Laid

abbrev pub octets_laid : Octets → Layout
octets_laid o ms p = record { written = o; names = [] }

abbrev pub name_laid : DomainName → Layout
name_laid n ms p = record { written = shared_octets ms n; names = (n, p) ∷ [] }

-- a record; the layout of its data; and the layout of all that follows its owner
abbrev pub shown : DomainName → ℕ → ℕ → Octets → ResourceRecord
shown owner rtype ttl rdata = record { owner = owner; ttl = ttl; rtype = rtype; rdata = rdata }

abbrev pub parts_laid : ℕ → Octets → Layout
parts_laid rtype rdata ms p = data_laid ms p (laid_parts rtype rdata)

abbrev pub tail_laid : ℕ → ℕ → Octets → Layout
tail_laid rtype ttl rdata ms p =
    let d = parts_laid rtype rdata ms (p + 10) in
    record { written = record_tail (shown [] rtype ttl rdata) d.written; names = d.names }

-- records laid out from offset p on, with their names
unfoldable pub records_laid : List ResourceRecord → Layout
records_laid [] ms p = record { written = []; names = [] }
records_laid (r ∷ rs) ms p =
    let l = record_laid ms p r in
    laid_front l.written l.names (records_laid rs (ms ++ l.names) (p + length l.written))
