-- Data in zone files: which data the words of a record spell, in the form of its type and in the
-- generic form for any type.
use Rattle.std.specs.Prelude.{◌≡◌, ℕ, ◌+◌, ◌*◌, ◌%◌, ◌^◌, ◌<◌, ◌≤◌, ◌⊎◌, max, Bool, true, false, ◌&&◌, ◌||◌, not, List, [], ◌∷◌, ◌++◌, length, replicate, nat_lt, ◌==◌, IsTrue, if◌then◌else◌, codes, decimal, MatchOption}
use Rattle.std.specs.Prelude.{Option, None, Some}
use Rattle.std.specs.Bool.{MatchBool}
use Rattle.std.specs.Option.{option_map}
use Rattle.std.specs.List.{list_all, list_any, flat_map}
use Rattle.std.specs.Int.{bytes_high_first}
use Rattle.std.specs.Char.{is_ascii_hexdigit, is_ascii_graphic, digit_value}
use Rattle.dns_spec.specs.Names.{Octets, DomainName, wire, octets_equal}
use Rattle.dns_spec.specs.NameText.{is_printable, SpellsOctet, SpellsName}
use Rattle.dns_spec.specs.Data.{Field, number, ipv4, ipv6, domain, string, strings, anything, TypeRow, row_of, Valid, lower_case}
use Rattle.dns_spec.specs.AddressText.{SaysIpv4, SaysIpv6}

-- RFC 1035 5.1: a word of an entry, unquoted or in quotation marks: its text as it is spelled, with
-- its escapes but without its quotation marks
pub record Word : Type 0 where
  pub raw : Octets
  pub is_quoted : Bool

-- an octet that represents itself in an unquoted word: it neither ends the word nor begins an
-- escape
abbrev pub is_word_octet : ℕ → Bool
is_word_octet o = is_ascii_graphic o && not (list_any (λ s. o == s) (codes "\"();\\"))

-- an octet that represents itself in a quoted string
abbrev pub is_string_octet : ℕ → Bool
is_string_octet o = (is_printable o || o == 9) && not (list_any (λ s. o == s) (codes "\"\\"))

-- The text is a number in decimal, without leading zeros (in this product), and d is that number in
-- k octets.
abbrev pub SaysNumber : ℕ → Octets → Octets → Type 0
SaysNumber k text d = (n : ℕ) × (n < 256 ^ k) × (text ≡ decimal n) × (d ≡ bytes_high_first k n)

-- RFC 1035 5.1: the text spells a name, relative to the origin, and d is the name's wire form
abbrev pub SaysName : DomainName → Octets → Octets → Type 0
SaysName origin text d = (n : DomainName) × SpellsName origin text n × (d ≡ wire n)

-- RFC 1035 5.1: an octet of a string is spelled as in a label; a dot may also represent itself
abbrev pub SpellsStringOctet : Octets → ℕ → Type 0
SpellsStringOctet text x = SpellsOctet text x ⊎ ((text ≡ codes ".") × (x ≡ 46))

-- the text spells the octets of a string, one after another
abbrev pub SpellsString : Octets → Octets → Type 0
SpellsString text [] = text ≡ []
SpellsString text (x ∷ s) =
    (first : Octets) × (others : Octets) × (text ≡ first ++ others)
    × SpellsStringOctet first x × SpellsString others s

-- RFC 1035 3.3: the text spells a string of at most 255 octets, and d is its length octet and then
-- the string
abbrev pub SaysString : Octets → Octets → Type 0
SaysString text d = (s : Octets) × (length s ≤ 255) × SpellsString text s × (d ≡ length s ∷ s)

-- The text spells a field of this kind, whose octets are d. Names are relative to the origin. For
-- `strings`, the text spells one of the strings. No text spells a field `anything`, which only
-- types without a mnemonic have.
abbrev pub SaysField : Field → DomainName → Octets → Octets → Type 0
SaysField (number k) origin text d = SaysNumber k text d
SaysField ipv4 origin text d = SaysIpv4 text d
SaysField ipv6 origin text d = SaysIpv6 text d
SaysField domain origin text d = SaysName origin text d
SaysField string origin text d = SaysString text d
SaysField strings origin text d = SaysString text d
SaysField anything origin text d = ⊥

-- only a string may be in quotation marks
abbrev pub may_be_quoted : Field → Bool
may_be_quoted string = true
may_be_quoted strings = true
may_be_quoted _ = false

-- the word spells the field, and is quoted only if the field allows it
pub record SaysWord (f : Field) (origin : DomainName) (w : Word) (d : Octets) : Type 0 where
  pub quotes : IsTrue (may_be_quoted f || not w.is_quoted)
  pub said : SaysField f origin w.raw d

-- the words spell the data in order, one word for each field
abbrev pub SaysFields : List Field → DomainName → List Word → Octets → Type 0
SaysFields [] origin [] d = d ≡ []
SaysFields [] origin (w ∷ ws) d = ⊥
SaysFields (f ∷ fs) origin [] d = ⊥
SaysFields (f ∷ fs) origin (w ∷ ws) d =
    (front : Octets) × (back : Octets) × (d ≡ front ++ back)
    × SaysWord f origin w front × SaysFields fs origin ws back

-- `strings` is the only field, as in TXT (RFC 1035 3.3.14)
abbrev pub are_strings_alone : List Field → Bool
are_strings_alone (strings ∷ []) = true
are_strings_alone _ = false

-- The fields that k words of data have to spell. If `strings` is the only field, each word spells
-- one string, and there is at least one. Otherwise they are the fields of the type, for any k.
abbrev pub word_fields : ℕ → List Field → List Field
word_fields k fs = if are_strings_alone fs then replicate (max 1 k) strings else fs

-- the fields that k words of data of a type have to spell, if the type has a mnemonic
abbrev pub word_fields_of : ℕ → ℕ → Option (List Field)
word_fields_of t k = option_map (λ (row : TypeRow). word_fields k row.fields) (row_of t)

-- the words spell data in its type's own form
abbrev pub SaysTyped : ℕ → DomainName → List Word → Octets → Type 0
SaysTyped t origin ws d = MatchOption (word_fields_of t (length ws)) ⊥ (λ fs. SaysFields fs origin ws d)

-- the octets that hex digits of either case spell, two digits per octet
unfoldable pub hex_octets : Octets → Option Octets
hex_octets [] = Some []
hex_octets (h ∷ []) = None
hex_octets (h ∷ l ∷ text) =
    if is_ascii_hexdigit h && is_ascii_hexdigit l
    then option_map (λ d. (16 * digit_value h + digit_value l) ∷ d) (hex_octets text)
    else None

-- an unquoted word of an even number of octets, at least two; whether they are hex digits is not
-- tested here
abbrev pub is_hex_word : Word → Bool
is_hex_word w = not w.is_quoted && nat_lt 0 (length w.raw) && length w.raw % 2 == 0

-- words spell octets in hex, two digits per octet, and no octet is divided between two words
abbrev pub SaysHex : List Word → Octets → Type 0
SaysHex ws d =
    IsTrue (list_all is_hex_word ws) × (hex_octets (flat_map (λ (w : Word). w.raw) ws) ≡ Some d)

-- RFC 3597 section 5: the words after `\#` spell the data: its length in decimal, without leading
-- zeros (in this product), and then its octets in hex
abbrev pub SaysUnknown : List Word → Octets → Type 0
SaysUnknown [] d = ⊥
SaysUnknown (w ∷ ws) d = IsTrue (not w.is_quoted) × (w.raw ≡ decimal (length d)) × SaysHex ws d

-- the unquoted `\#`
abbrev pub is_unknown_mark : Word → Bool
is_unknown_mark w = not w.is_quoted && octets_equal w.raw (92 ∷ codes "#")

-- RFC 3597 section 5: if the first word is the unquoted `\#`, the words are in the generic form,
-- whatever the type
abbrev pub SaysAsSpelled : ℕ → DomainName → List Word → Octets → Type 0
SaysAsSpelled t origin [] d = SaysTyped t origin [] d
SaysAsSpelled t origin (w ∷ ws) d =
    MatchBool (is_unknown_mark w) (SaysUnknown ws d) (SaysTyped t origin (w ∷ ws) d)

-- The words spell valid data of the type, with names relative to the origin; d is that data with
-- its names in lower case (in this product).
pub record Says (t : ℕ) (ws : List Word) (origin : DomainName) (d : Octets) : Type 0 where
  pub as_spelled : Octets
  pub said : SaysAsSpelled t origin ws as_spelled
  pub is_valid : Valid t as_spelled
  pub lower : lower_case t as_spelled ≡ d
