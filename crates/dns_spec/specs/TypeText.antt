-- Types in zone files: which type a word names, and how a type is written.
use Rattle.std.specs.Prelude.{◌≡◌, ℕ, ◌<◌, ◌⊎◌, ◌++◌, map, codes, Option, Some}
use Rattle.std.specs.Option.{option_map, unwrap_or}
use Rattle.std.specs.List.{find}
use Rattle.std.specs.Char.{to_ascii_lowercase}
use Rattle.std.specs.Fmt.{decimal}
use Rattle.dns_spec.specs.Names.{Octets, octets_equal}
use Rattle.dns_spec.specs.Data.{TypeRow, type_table, row_of}

-- a text with its ASCII letters in lower case
abbrev pub text_in_lower_case : Octets → Octets
text_in_lower_case = map to_ascii_lowercase

-- RFC 1035 3.2.2 and 5.1: the row, and the type, whose mnemonic is the word, in any case
abbrev pub row_by_mnemonic : Octets → Option TypeRow
row_by_mnemonic word =
    find
    (λ (row : TypeRow). octets_equal (text_in_lower_case word) (text_in_lower_case row.mnemonic))
    type_table

abbrev pub type_by_mnemonic : Octets → Option ℕ
type_by_mnemonic word = option_map (λ (row : TypeRow). row.number) (row_by_mnemonic word)

-- RFC 3597 5: `TYPE` and the number in decimal, without leading zeros (in this product)
abbrev pub numbered_type : ℕ → Octets
numbered_type t = codes "TYPE" ++ decimal t

-- a word names a type of 16 bits: by its mnemonic in the table, or by its number, in any case
abbrev pub NamesType : Octets → ℕ → Type 0
NamesType word t =
    (type_by_mnemonic word ≡ Some t)
    ⊎ ((t < 65536) × (text_in_lower_case word ≡ text_in_lower_case (numbered_type t)))

-- RFC 3597 5: a type is written as its mnemonic if it has one, else by its number
abbrev pub type_text : ℕ → Octets
type_text t = unwrap_or (option_map (λ (row : TypeRow). row.mnemonic) (row_of t)) (numbered_type t)
