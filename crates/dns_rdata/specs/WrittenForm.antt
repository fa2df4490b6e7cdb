-- How the words of data are written from left to right, case by case as in the code.
use Rattle.std.specs.Prelude.{◌≡◌, ℕ, Bool, true, false, ◌&&◌, ◌==◌, not, List, [], ◌∷◌, ◌++◌}
use Rattle.dns_spec.specs.Names.{Octets}
use Rattle.dns_spec.specs.NameText.{is_printable}
use Rattle.dns_spec.specs.Data.{Field, strings, anything}
use Rattle.dns_spec.specs.DataText.{Word}
use Rattle.dns_spec.specs.WrittenText.{word_text, word_front}

-- words, the first after `before` and each other word after a space
abbrev pub spaced : Octets → List Word → Octets
spaced before [] = []
spaced before (w ∷ ws) = before ++ (word_text w ++ spaced (32 ∷ []) ws)

-- the word of the field with which `octets` begins was appended to the text `old`, and `left` are
-- the octets after the field
pub record PutsWord (f : Field) (octets old new left : Octets) : Type 0 where
  pub text : new ≡ old ++ word_text (word_front f octets).0
  pub rest : left ≡ (word_front f octets).1

-- a field that has one word, whatever the data
abbrev pub has_one_word : Field → Bool
has_one_word strings = false
has_one_word anything = false
has_one_word _ = true

-- an octet that is written as it is in a quoted string
abbrev pub is_plain : ℕ → Bool
is_plain o = is_printable o && (not (o == 34) && not (o == 92))
