-- Words that do not end early in a text, and words that do, computed from the definitions.
use Rattle.dns_spec.proofs.Common.{Octets, Word, [], codes, false, plain, stands_alone, true, ◌∷◌, ◌≡◌}

-- a quoted word as it is spelled, with its escapes
abbrev between : Octets → Word
between raw = record { raw = raw; is_quoted = true }

word_rows :
    (stands_alone (plain (codes "mail.example.")) ≡ true)
    × (stands_alone (between []) ≡ true)
    × (stands_alone (plain (codes "a;b")) ≡ false)
    -- unless a backslash precedes them
    × (stands_alone (plain (codes "a\\;\\(\\)\\\"b")) ≡ true)
    -- octets that are not printable
    × (stands_alone (plain (97 ∷ 9 ∷ [])) ≡ false)
    -- in quotation marks, only a quotation mark, a backslash at the end, and octets that are not
    -- printable are not allowed
    × (stands_alone (between (codes "a; (b)")) ≡ true)
    × (stands_alone (between (codes "a\"b")) ≡ false)
word_rows = search []
