-- Record data: its fields by type, which octets are valid data of a type, their lower-case form,
-- and the names in them.
use Rattle.std.specs.Prelude.{ℕ, ◌+◌, ◌-◌, ◌*◌, ◌^◌, Bool, true, false, ◌&&◌, not, List, [], ◌∷◌, map, length, take, drop, replicate, nat_le, ◌==◌, IsTrue, if◌then◌else◌, zero, suc, codes}
use Rattle.std.specs.Prelude.{Option, None, Some}
use Rattle.std.specs.Option.{option_map, unwrap_or, is_some}
use Rattle.std.specs.List.{find, flat_map}
use Rattle.dns_spec.specs.Names.{Octets, DomainName, wire, folded, name_of}

-- RFC 1035 3.2.2, RFC 3596 2.1, RFC 2782: the type numbers
abbrev pub type_a : ℕ
type_a = 1

abbrev pub type_ns : ℕ
type_ns = 2

abbrev pub type_cname : ℕ
type_cname = 5

abbrev pub type_soa : ℕ
type_soa = 6

abbrev pub type_ptr : ℕ
type_ptr = 12

abbrev pub type_hinfo : ℕ
type_hinfo = 13

abbrev pub type_mx : ℕ
type_mx = 15

abbrev pub type_txt : ℕ
type_txt = 16

abbrev pub type_aaaa : ℕ
type_aaaa = 28

abbrev pub type_srv : ℕ
type_srv = 33

-- RFC 1035 3.2.3: the QTYPE that asks for all types
abbrev pub qtype_any : ℕ
qtype_any = 255

-- RFC 1035 3.2.4: IN, the only class that is served
abbrev pub class_in : ℕ
class_in = 1

-- A field of data: a number of k octets, an IPv4 address, an IPv6 address, a domain name, a
-- character-string, one or more character-strings up to the end of the data, or any octets up to
-- the end of the data.
pub data Field : Type 0 where
  number : ℕ → Field
  ipv4 : Field
  ipv6 : Field
  domain : Field
  string : Field
  strings : Field
  anything : Field

-- A type that has a mnemonic: its number and mnemonic, the fields of its data, and whether names
-- in its data are compressed.
pub record TypeRow : Type 0 where
  pub number : ℕ
  pub mnemonic : Octets
  pub fields : List Field
  pub compresses : Bool

-- the row of a type in whose data names are compressed, and of a type in whose data they are not
abbrev pub compressed_row : ℕ → Octets → List Field → TypeRow
compressed_row t word fs = record { number = t; mnemonic = word; fields = fs; compresses = true }

abbrev pub plain_row : ℕ → Octets → List Field → TypeRow
plain_row t word fs = record { number = t; mnemonic = word; fields = fs; compresses = false }

-- RFC 1035 3.3 and 3.4, RFC 3596 2.2, RFC 2782: the data of each type. RFC 3597 section 4: names
-- are compressed only in data of the types of RFC 1035; RFC 2782 forbids compressing the target of
-- SRV.
abbrev pub type_table : List TypeRow
type_table =
    plain_row type_a (codes "A") (ipv4 ∷ [])
    ∷ compressed_row type_ns (codes "NS") (domain ∷ [])
    ∷ compressed_row type_cname (codes "CNAME") (domain ∷ [])
    ∷ compressed_row type_soa (codes "SOA") (domain ∷ domain ∷ replicate 5 (number 4))
    ∷ compressed_row type_ptr (codes "PTR") (domain ∷ [])
    ∷ plain_row type_hinfo (codes "HINFO") (string ∷ string ∷ [])
    ∷ compressed_row type_mx (codes "MX") (number 2 ∷ domain ∷ [])
    ∷ plain_row type_txt (codes "TXT") (strings ∷ [])
    ∷ plain_row type_aaaa (codes "AAAA") (ipv6 ∷ [])
    ∷ plain_row type_srv (codes "SRV") (number 2 ∷ number 2 ∷ number 2 ∷ domain ∷ [])
    ∷ []

-- RFC 3597 section 3: data of any other type is a run of octets
abbrev pub other_type : TypeRow
other_type = plain_row 0 [] (anything ∷ [])

-- the row of a type in the table, if there is one; and that row, or `other_type` if there is none
abbrev pub row_of : ℕ → Option TypeRow
row_of t = find (λ (row : TypeRow). row.number == t) type_table

abbrev pub type_row : ℕ → TypeRow
type_row t = unwrap_or (row_of t) other_type

-- the fields of a type's data, and whether names in it are compressed
abbrev pub fields_of : ℕ → List Field
fields_of t = (type_row t).fields

abbrev pub compresses : ℕ → Bool
compresses t = (type_row t).compresses

-- A part of data: a run of octets as they are, or a domain name.
pub data Part : Type 0 where
  octets : Octets → Part
  name : DomainName → Part

-- the octets of a part, and of a list of parts one after another
abbrev pub part_octets : Part → Octets
part_octets (octets o) = o
part_octets (name n) = wire n

abbrev pub joined : List Part → Octets
joined = flat_map part_octets

-- RFC 1035 3.3: the octets are character-strings one after another, each after its length in one
-- octet; the first k octets belong to a string whose length octet came before
abbrev pub are_strings : ℕ → Octets → Bool
are_strings zero [] = true
are_strings (suc k) [] = false
are_strings zero (o ∷ os) = are_strings o os
are_strings (suc k) (o ∷ os) = are_strings k os

-- the first k octets as a part, if there are that many, and the octets after them
abbrev pub octets_front : ℕ → Octets → Option (Part × Octets)
octets_front k os = if nat_le k (length os) then Some (octets (take k os), drop k os) else None

-- the character-string that begins the octets, with its length octet, and the octets after it
abbrev pub string_front : Octets → Option (Part × Octets)
string_front [] = None
string_front (k ∷ os) = octets_front (suc k) (k ∷ os)

-- all the octets as one part, if they are one or more character-strings
abbrev pub strings_front : Octets → Option (Part × Octets)
strings_front os = if not (length os == 0) && are_strings 0 os then Some (octets os, []) else None

-- the field that begins the octets, and the octets after it
abbrev pub field_front : Field → Octets → Option (Part × Octets)
field_front (number k) os = octets_front k os
field_front ipv4 os = octets_front 4 os
field_front ipv6 os = octets_front 16 os
field_front domain os = option_map (λ r. (name r.0, r.1)) (name_of os)
field_front string os = string_front os
field_front strings os = strings_front os
field_front anything os = Some (octets os, [])

-- the octets split into one part for each field, if the fields take up all of them
unfoldable pub cut : List Field → Octets → Option (List Part)
cut [] [] = Some []
cut [] (o ∷ os) = None
cut (f ∷ fs) os =
    elim (field_front f os) [ None ↦ None | Some r ↦ option_map (λ xs. r.0 ∷ xs) (cut fs r.1) ]

-- The octets are valid data of the type; names may be in any case. RFC 1035 3.2.1: data has at
-- most 65,535 octets.
abbrev pub valid : ℕ → Octets → Bool
valid t d = nat_le (length d) 65535 && is_some (cut (fields_of t) d)

abbrev pub Valid : ℕ → Octets → Type 0
Valid t d = IsTrue (valid t d)

-- the parts of data in order, runs of octets and names; joined, they are the data. Invalid data is
-- one run of octets.
abbrev pub parts : ℕ → Octets → List Part
parts t d = unwrap_or (cut (fields_of t) d) (octets d ∷ [])

-- a part, and data, with the ASCII letters of names in lower case
abbrev pub part_folded : Part → Part
part_folded (octets o) = octets o
part_folded (name n) = name (folded n)

abbrev pub lower_case : ℕ → Octets → Octets
lower_case t d = joined (map part_folded (parts t d))

-- the parts of data for a writer of messages: one run of octets, unless names in data of the type
-- are compressed
abbrev pub laid_parts : ℕ → Octets → List Part
laid_parts t d = if compresses t then parts t d else octets d ∷ []

-- the first name in parts, and in data: the target of NS, CNAME, PTR, MX and SRV
abbrev pub first_name : List Part → Option DomainName
first_name [] = None
first_name (octets o ∷ ps) = first_name ps
first_name (name n ∷ ps) = Some n

abbrev pub target : ℕ → Octets → Option DomainName
target t d = first_name (parts t d)

-- RFC 1035 2.3.2: the number that the octets encode, most significant octet first
abbrev pub number_of : Octets → ℕ
number_of [] = 0
number_of (o ∷ os) = o * 256 ^ length os + number_of os

-- RFC 1035 3.3.13: the data of an SOA ends with five numbers of 32 bits, SERIAL, REFRESH, RETRY,
-- EXPIRE and MINIMUM; this is number k of them, counted from 0
abbrev pub soa_number : ℕ → Octets → ℕ
soa_number k d = number_of (take 4 (drop (length d - 4 * (5 - k)) d))

abbrev pub soa_serial : Octets → ℕ
soa_serial = soa_number 0

abbrev pub soa_minimum : Octets → ℕ
soa_minimum = soa_number 4
