-- A word spells at most one name, and a text at most one string.
use Rattle.dns_spec.proofs.Common.{◌≡◌, ℕ, inl, inr, Bool, true, ◌==◌, [], ◌∷◌, ◌++◌, length, Option, Some, None, refl, sym, ◌∙◌, ap, ap₂, subst, arith, codes, if◌then◌else◌, list_all, is_ascii_digit, true≢false, false≢true, and_parts, none-some, Octets, DomainName, is_label, three_digits_value, SpellsOctet, LabelThen, TextSpells, SpellsName, SpellsStringOctet, SpellsString}

-- the octet whose spelling a text begins with, if it begins with one, and the text after it
digits_front : Octets → Option (ℕ × Octets)
digits_front [] = None
digits_front (a ∷ []) = None
digits_front (a ∷ b ∷ []) = None
digits_front (a ∷ b ∷ c ∷ text) = Some (three_digits_value a b c, text)

escaped_front : Octets → Option (ℕ × Octets)
escaped_front [] = None
escaped_front (a ∷ text) = if is_ascii_digit a then digits_front (a ∷ text) else Some (a, text)

octet_front : Octets → Option (ℕ × Octets)
octet_front [] = None
octet_front (a ∷ text) = if a == 92 then escaped_front text else Some (a, text)

-- a text begins with the spelling of at most one octet
octet_once : (text first first' others others' : Octets) (x y : ℕ)
    → text ≡ first ++ others → text ≡ first' ++ others'
    → SpellsStringOctet first x → SpellsStringOctet first' y → (x ≡ y) × (others ≡ others')
octet_once text first first' others others' x y e f h k = grind arith

pub string_once : (text s t : Octets) → SpellsString text s → SpellsString text t → s ≡ t
unfolding octet_front escaped_front digits_front
string_once text [] [] h k = refl
string_once text [] (y ∷ t) h (first, others, e, said, k) = grind (arith, none-some, octet_front)
string_once text (x ∷ s) [] (first, others, e, said, h) k = grind (arith, none-some, octet_front)
string_once text (x ∷ s) (y ∷ t) (first, others, e, said, h) (first', others', e', said', k) =
    let one = octet_once text first first' others others' x y e e' said said' in
    ap₂ (λ z zs. z ∷ zs) one.0
    (string_once others s t h (subst (λ r. SpellsString r t) (sym one.1) k))

-- a label ends at a dot, and at the end of the text
unfoldable pub ends : Octets → Bool
ends [] = true
ends (o ∷ text) = o == 46

not_ended : (text rest first others : Octets) (x : ℕ)
    → text ≡ rest → ends rest ≡ true → text ≡ first ++ others → SpellsOctet first x → ⊥
unfolding ends
not_ended text rest first others x e end f h = grind (arith, true≢false)

-- a text begins with at most one label
pub label_once : (text l rest l' rest' : Octets) → LabelThen text l rest
    → LabelThen text l' rest' → ends rest ≡ true → ends rest' ≡ true → (l ≡ l') × (rest ≡ rest')
label_once text [] rest [] rest' h k end end' = (refl, sym h ∙ k)
label_once text [] rest (y ∷ l') rest' h (first, others, e, said, k) end end' =
    absurd (not_ended text rest first others y h end e said)
label_once text (x ∷ l) rest [] rest' (first, others, e, said, h) k end end' =
    absurd (not_ended text rest' first others x k end' e said)
label_once text (x ∷ l) rest
    (y ∷ l') rest' (first, others, e, said, h) (first', others', e', said', k) end end' =
    grind (arith, octet_once, inl, ap₂, (label_once others l rest l' rest' h))

no_empty_label : (l : Octets) → [] ≡ l → is_label l ≡ true → ⊥
no_empty_label l e h = false≢true (ap is_label e ∙ h)

-- a text that is empty or begins with a dot spells no name with labels
pub no_labels : (origin text rest : Octets) (above : DomainName) (l : Octets) (n : DomainName) → text
    ≡ rest → ends rest ≡ true → list_all is_label (l ∷ n) ≡ true → TextSpells above text (l ∷ n) → ⊥
unfolding ends
no_labels origin text rest above l n e end all (inl (h, f)) =
    no_empty_label l (label_once text [] rest l [] e h end refl).0 (and_parts (is_label l) _ all).0
no_labels origin text rest above l n e end all (inr (others, h, f)) =
    no_empty_label l
    (label_once text [] rest l (46 ∷ others) e h end refl).0 (and_parts (is_label l) _ all).0

spelled_once : (origin : DomainName) (text : Octets) (n m : DomainName) → list_all is_label n ≡ true
    → list_all is_label m ≡ true → TextSpells origin text n → TextSpells origin text m → n ≡ m
unfolding ends
spelled_once origin text [] [] all all' h k = refl
spelled_once origin text [] (l ∷ m) all all' h k = search no_labels
spelled_once origin text (l ∷ n) [] all all' h k = search no_labels
spelled_once origin text (l ∷ n) (l' ∷ m) all all' (inl (h, e)) (inl (k, f)) =
    ap₂ (λ z zs. z ∷ zs) (label_once text l [] l' [] h k refl refl).0 (e ∙ sym f)
spelled_once origin text (l ∷ n) (l' ∷ m) all all' (inl (h, e)) (inr (others, k, f)) =
    grind (arith, label_once)
spelled_once origin text (l ∷ n) (l' ∷ m) all all' (inr (others, h, e)) (inl (k, f)) =
    grind (arith, label_once)
spelled_once origin text (l ∷ n) (l' ∷ m) all all' (inr (others, h, e)) (inr (others', k, f)) =
    grind (arith, label_once, and_parts, ap₂, (spelled_once origin others n m))

-- `.` spells only the root
dot_alone : (origin : DomainName) (word : Octets) (m : DomainName)
    → word ≡ codes "." → list_all is_label m ≡ true → TextSpells origin word m → ⊥
unfolding ends
dot_alone origin word [] e all h = omega (arith, ap length (sym e ∙ h))
dot_alone origin word (l ∷ m) e all h = no_labels [] word (codes ".") origin l m e refl all h

pub name_once : (origin : DomainName) (word : Octets) (n m : DomainName)
    → SpellsName origin word n → SpellsName origin word m → n ≡ m
name_once origin word n m h k = grind (arith, dot_alone, spelled_once)
