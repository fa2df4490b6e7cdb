-- Names in wire form and as text, computed from the definitions.
use Rattle.dns_spec.proofs.Common.{None, Some, [], codes, escape_front, labels_fault, labels_from, name_fault, name_of, name_text, octet_text, replicate, ◌++◌, ◌∷◌, ◌≡◌}
use Rattle.dns_spec.proofs.WorkedExamples.Zones.{dotted, hex}

text_rows :
    (name_text (dotted (codes "ns.example")) ≡ codes "ns.example.")
    -- all octets that need a backslash
    × (name_text (codes "\"$().;@\\" ∷ []) ≡ codes "\\\"\\$\\(\\)\\.\\;\\@\\\\.")
    × (name_text ((0 ∷ 32 ∷ 127 ∷ 255 ∷ []) ∷ []) ≡ codes "\\000\\032\\127\\255.")
    -- the text after a backslash: one octet, three digits, three digits beyond 255, and two digits
    × (escape_front (codes ".b") ≡ Some (46, codes "b"))
    × (escape_front (codes "256") ≡ None)
    -- the first faulty label decides, whatever follows it
    × (name_fault [] ≡ 1)
    × (name_fault (replicate 64 97 ++ codes "..") ≡ 2)
    -- an invalid escape is reported before the length of its label
    × (name_fault (codes "\\256") ≡ 4)
    -- fault 3, the name is too long, only if all labels are valid
    × (name_fault (replicate 63 97 ++ codes ".b.") ≡ 3)
    -- `a.` and what follows it
    × (name_of (hex (codes "01 61 00 78 79 7a")) ≡ Some (dotted (codes "a"), codes "xyz"))
    -- a pointer is not a label, nor are 64 octets
    × (name_of (hex (codes "c0 0c")) ≡ None)
unfolding labels_fault octet_text labels_from
text_rows = search []
