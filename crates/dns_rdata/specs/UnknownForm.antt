-- What a word of octets in hex digits spells, and what it appends to the octets of the words
-- before it.
use Rattle.std.specs.Prelude.{◌≡◌, ◌++◌, Some, IsTrue}
use Rattle.dns_spec.specs.Names.{Octets}
use Rattle.dns_spec.specs.DataText.{Word, is_hex_word, hex_octets}

-- the octets that an unquoted word of whole octets spells
abbrev pub SaysHexWord : Word → Octets → Type 0
SaysHexWord w d = IsTrue (is_hex_word w) × (hex_octets w.raw ≡ Some d)

-- the octets that the word spells were appended
abbrev pub AppendsWord : Word → Octets → Octets → Type 0
AppendsWord w old new = (d : Octets) × SaysHexWord w d × (new ≡ old ++ d)
