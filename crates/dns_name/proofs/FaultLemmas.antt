-- Which fault a word has is decided by its first faulty label.
use Rattle.dns_name.proofs.Common.{◌≡◌, ℕ, suc, ◌+◌, true, false, ◌==◌, [], ◌∷◌, ◌++◌, length, Some, None, refl, ◌∙◌, ap, subst, arith, length-append, ne_eqb, IsLabel-is_label, Octets, is_label, SpellsOctet, LabelThen, escape_front, escape_left, labels_fault, name_fault, octet_at, is_label_end, IsNoLength}
use Rattle.dns_spec.proofs.NameTexts.Escapes.{escape_spells}

escape_over : (e others : Octets) (i : ℕ)
    → labels_fault (length e) i (e ++ others) ≡ labels_fault 0 i others
unfolding labels_fault
escape_over [] others i = refl
escape_over (o ∷ e) others i = escape_over e others i

escaped_over : (e others : Octets) (x i : ℕ) → SpellsOctet (92 ∷ e) x
    → labels_fault 0 i (92 ∷ (e ++ others)) ≡ labels_fault 0 (suc i) others
unfolding labels_fault
escaped_over e others x i p =
    let front : escape_front (e ++ others) ≡ Some (x, others) =
    (escape_spells (e ++ others) x others).1 (e, refl, p) in
    let left : escape_left (e ++ others) ≡ Some (length e) =
    grind (arith, front, length-append) in
    rw (left, labels_fault) (escape_over e others (suc i))

octet_over : (first others : Octets) (x i : ℕ) → SpellsOctet first x
    → labels_fault 0 i (first ++ others) ≡ labels_fault 0 (suc i) others
unfolding labels_fault
octet_over [] others x i p = absurd p
octet_over (a ∷ []) others x i p = grind (arith, ne_eqb)
octet_over (a ∷ b ∷ e) others x i p =
    let is_92 : a ≡ 92 = grind arith in
    let P : ℕ → Type 0 = λ c. SpellsOctet (c ∷ b ∷ e) x in
    ap (λ c. labels_fault 0 i (c ∷ b ∷ (e ++ others))) is_92
    ∙ escaped_over (b ∷ e) others x i (subst P is_92 p)

-- the octets of a label are counted
label_over : (text l rest : Octets) (i : ℕ) → LabelThen text l rest
    → labels_fault 0 i text ≡ labels_fault 0 (i + length l) rest
label_over text [] rest i h = grind arith
label_over text (x ∷ l) rest i (first, others, e, p, h) =
    ap (labels_fault 0 i) e ∙ octet_over first others x i p ∙ label_over others l rest (suc i) h
    ∙ ap (λ n. labels_fault 0 n rest) (omega arith)

-- a label of 1 to 63 octets has no fault, so the fault is that of the labels after it
pub valid_over : (text l others : Octets) → LabelThen text l (46 ∷ others)
    → is_label l ≡ true → labels_fault 0 0 text ≡ labels_fault 0 0 others
unfolding labels_fault
valid_over text l others h is_l =
    grind (arith, label_over text l (46 ∷ others) 0 h, IsLabel-is_label)

-- a text that is one valid label has fault 3: its name can only be too long
pub valid_last : (text l : Octets) → LabelThen text l [] → is_label l ≡ true
    → labels_fault 0 0 text ≡ 3
unfolding labels_fault
valid_last text l h is_l = grind (arith, label_over text l [] 0 h, IsLabel-is_label)

pub named_fault : (text : Octets) → (text ≡ [] → ⊥) → name_fault text ≡ labels_fault 0 0 text
named_fault [] some = absurd (some refl)
named_fault (o ∷ text) some = refl

-- a backslash that begins no escape has fault 4
bad_escape : (rest : Octets) (i : ℕ) → is_label_end rest ≡ false → octet_at rest ≡ None
    → labels_fault 0 i rest ≡ 4
unfolding labels_fault octet_at
bad_escape [] i goes_on none = cc
bad_escape (o ∷ rest) i goes_on none = grind arith

pub escape_fault : (text l rest : Octets) → LabelThen text l rest → is_label_end rest ≡ false
    → octet_at rest ≡ None → name_fault text ≡ 4
unfolding labels_fault
escape_fault [] l rest h goes_on none =
    grind (arith, label_over [] l rest 0 h, bad_escape rest (0 + length l) goes_on none)
escape_fault (o ∷ text) l rest h goes_on none =
    label_over (o ∷ text) l rest 0 h ∙ bad_escape rest (0 + length l) goes_on none

dot_after : (o : ℕ) (rest l : Octets) (code : ℕ) → (o == 46) ≡ true → IsNoLength l code
    → labels_fault 0 (0 + length l) (o ∷ rest) ≡ code
unfolding labels_fault
dot_after o rest l code dot none = grind arith

-- an empty label has fault 1, and a label of more than 63 octets fault 2
pub length_fault : (text l rest : Octets) (code : ℕ) → LabelThen text l rest
    → is_label_end rest ≡ true → IsNoLength l code → name_fault text ≡ code
unfolding labels_fault
length_fault [] l [] code h at_end none = grind (arith, label_over [] l [] 0 h)
length_fault (a ∷ text) l [] code h at_end none = grind (arith, label_over (a ∷ text) l [] 0 h)
length_fault [] l (o ∷ rest) code h at_end none =
    absurd (grind (arith, label_over [] l (o ∷ rest) 0 h, dot_after o rest l code at_end none))
length_fault (a ∷ text) l (o ∷ rest) code h at_end none =
    label_over (a ∷ text) l (o ∷ rest) 0 h ∙ dot_after o rest l code at_end none
