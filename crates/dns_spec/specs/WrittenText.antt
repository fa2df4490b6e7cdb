-- How the data of a record is written, word by word.
use Rattle.std.specs.Prelude.{ℕ, zero, suc, ◌+◌, ◌/◌, ◌%◌, Bool, ◌&&◌, ◌||◌, not, true, false, List, [], ◌∷◌, ◌++◌, map, length, take, drop, nat_lt, nat_le, ◌==◌, if◌then◌else◌, codes, decimal}
use Rattle.std.specs.Prelude.{Option, None, Some}
use Rattle.std.specs.List.{flat_map, join_with_byte}
use Rattle.std.specs.Char.{digit_char, is_ascii_graphic}
use Rattle.dns_spec.specs.Names.{Octets, DomainName, name_of}
use Rattle.dns_spec.specs.Data.{number_of, Field, number, ipv4, ipv6, domain, string, strings, anything}
use Rattle.dns_spec.specs.NameText.{three_digits, name_text}
use Rattle.dns_spec.specs.AddressText.{ipv4_text, ipv6_text}
use Rattle.dns_spec.specs.DataText.{Word, is_word_octet, is_string_octet, word_fields_of}

-- a word without quotation marks
abbrev pub plain : Octets → Word
plain text = record { raw = text; is_quoted = false }

-- RFC 1035 5.1: in quotation marks, `"` and `\` have a backslash before them, and octets that are
-- not printable are written as `\DDD`
abbrev pub string_octet_text : ℕ → Octets
string_octet_text o =
    if o == 34 || o == 92 then 92 ∷ o ∷ []
    else if nat_le 32 o && nat_le o 126 then o ∷ []
    else 92 ∷ three_digits o

-- a string as a word in quotation marks
abbrev pub quoted : Octets → Word
quoted s = record { raw = flat_map string_octet_text s; is_quoted = true }

-- a word as it appears in the text
abbrev pub word_text : Word → Octets
word_text w = if w.is_quoted then 34 ∷ (w.raw ++ 34 ∷ []) else w.raw

-- a string as it appears in the text
abbrev pub string_text : Octets → Octets
string_text s = word_text (quoted s)

-- two lower-case hex digits per octet
abbrev pub hex_text : Octets → Octets
hex_text d = flat_map (λ o. digit_char (o / 16) ∷ digit_char (o % 16) ∷ []) d

-- all octets in one word of hex digits; no word if there are no octets
abbrev pub hex_words : Octets → List Word
hex_words [] = []
hex_words (o ∷ d) = plain (hex_text (o ∷ d)) ∷ []

-- RFC 3597 section 5: the generic form, for data of any type
abbrev pub unknown_words : Octets → List Word
unknown_words d = plain (92 ∷ codes "#") ∷ plain (decimal (length d)) ∷ hex_words d

-- The name that data begins with, as a word, and the data after it.
abbrev pub name_front : Option (DomainName × Octets) → Word × Octets
name_front None = (plain [], [])
name_front (Some (n, d)) = (plain (name_text n), d)

-- the string that data begins with, as a word, and the data after it
abbrev pub string_word : Octets → Word × Octets
string_word [] = (quoted [], [])
string_word (k ∷ d) = (quoted (take k d), drop k d)

-- the word of the field that data begins with, or of one of the strings of `strings`, and the data
-- after it
abbrev pub word_front : Field → Octets → Word × Octets
word_front (number k) d = (plain (decimal (number_of (take k d))), drop k d)
word_front ipv4 d = (plain (ipv4_text (take 4 d)), drop 4 d)
word_front ipv6 d = (plain (ipv6_text (take 16 d)), drop 16 d)
word_front domain d = name_front (name_of d)
word_front string d = string_word d
word_front strings d = string_word d
word_front anything d = (plain [], d)

-- the words of data, one for each field
abbrev pub field_words : List Field → Octets → List Word
field_words [] d = []
field_words (f ∷ fs) d = (word_front f d).0 ∷ field_words fs (word_front f d).1

-- the number of character-strings that begin in the octets (RFC 1035 3.3); the first k octets
-- belong to a string that began before
abbrev pub string_count : ℕ → Octets → ℕ
string_count k [] = 0
string_count zero (k ∷ d) = 1 + string_count k d
string_count (suc k) (o ∷ d) = string_count k d

-- the words of data by its fields, or in the generic form without fields
abbrev pub words_by : Option (List Field) → Octets → List Word
words_by None d = unknown_words d
words_by (Some fs) d = field_words fs d

-- The words of data that is valid for its type: by the fields of the type, or in the generic form
-- if the type has no mnemonic.
abbrev pub written_words : ℕ → Octets → List Word
written_words t d = words_by (word_fields_of t (string_count 0 d)) d

-- the text of data of a type: its words, separated by single spaces
unfoldable pub data_text : ℕ → Octets → Octets
data_text t d = join_with_byte 32 (map word_text (written_words t d))

-- RFC 1035 5.1: the text consists of octets that p accepts, and of backslashes that each precede a
-- graphic octet; p must not accept the backslash
abbrev pub is_unbroken : (ℕ → Bool) → Octets → Bool
is_unbroken p [] = true
is_unbroken p (c ∷ []) = p c
is_unbroken p (c ∷ d ∷ text) =
    elim (c == 92) [
      | true ↦ is_ascii_graphic d && is_unbroken p text
      | false ↦ p c && is_unbroken p (d ∷ text)
    ]

-- an octet that is written as itself in a quoted string; a tab is not
abbrev pub is_quotable : ℕ → Bool
is_quotable c = not (c == 9) && is_string_octet c

-- No octet of the word ends it early. Whether its escapes are valid is not tested here.
abbrev pub stands_alone : Word → Bool
stands_alone w =
    if w.is_quoted then is_unbroken is_quotable w.raw
    else nat_lt 0 (length w.raw) && is_unbroken is_word_octet w.raw
