-- What is written for an octet, a label and a name, piece by piece, and how long it can get.
use Rattle.dns_name.proofs.Common.{◌≡◌, ℕ, ◌+◌, ◌-◌, ◌*◌, ◌<◌, ◌≤◌, true, false, [], ◌∷◌, ◌++◌, length, map, take, refl, sym, ap, ap₂, ◌∙◌, arith, length-append, join_with_byte, Octets, DomainName, wire, is_special, three_digits, octet_text, label_text, labels_text, name_text, append_assoc, append-nil, take_at, is_ascii_graphic, bare_name_text}

pub special_text : (x : ℕ) → is_special x ≡ true → octet_text x ≡ 92 ∷ x ∷ []
unfolding octet_text
special_text x special = rw special refl

pub graphic_text : (x : ℕ)
    → is_special x ≡ false → is_ascii_graphic x ≡ true → octet_text x ≡ x ∷ []
unfolding octet_text
graphic_text x plain graphic = rw (plain, graphic) refl

pub other_text : (x : ℕ)
    → is_special x ≡ false → is_ascii_graphic x ≡ false → octet_text x ≡ 92 ∷ three_digits x
unfolding octet_text
other_text x plain other = rw (plain, other) refl

-- at most four octets are written for each octet of a label
pub length-label_text : (l : Octets) → length (label_text l) ≤ 4 * length l
unfolding octet_text
length-label_text [] = omega arith
length-label_text (x ∷ l) = grind (arith, (length-label_text l), length-append)

-- after `before`, the labels `rest` are still to come
pub record NameSoFar
    (before : Octets) (n : DomainName) (text : Octets) (rest : DomainName) : Type 0 where
  pub whole : text ++ labels_text rest ≡ before ++ labels_text n
  pub room : length text + 4 * length (wire rest) ≤ length before + 1020

-- one more label is written, with its dot
pub NameSoFar-next : (before : Octets) (n : DomainName)
    (text new : Octets) (labels rest : DomainName) (l : Octets) → NameSoFar before n text labels
    → labels ≡ l ∷ rest → new ≡ (text ++ label_text l) ++ 46 ∷ [] → NameSoFar before n new rest
NameSoFar-next before n text new labels rest l so_far e f =
    grind (arith, append_assoc, length-append, length-label_text)

-- the labels each with a dot are the labels joined by dots, and a final dot
last_dot : (l : Octets) (n : DomainName)
    → labels_text (l ∷ n) ≡ join_with_byte 46 (map label_text (l ∷ n)) ++ 46 ∷ []
last_dot l [] = append-nil (label_text l ++ 46 ∷ [])
last_dot l (k ∷ n) = grind (arith, append_assoc, (last_dot k n))

pub bare_name : (n : DomainName) (before text new : Octets) → 0 < length n
    → text ≡ before ++ name_text n → new ≡ take (length text - 1) text
    → new ≡ before ++ bare_name_text n
bare_name [] before text new h e f = absurd (omega (arith, h))
bare_name (l ∷ n) before text new h e f =
    f ∙ ap (λ t. take (length t - 1) t) dotted ∙ without_last (before ++ bare_name_text (l ∷ n))
  where
    dotted : text ≡ (before ++ bare_name_text (l ∷ n)) ++ 46 ∷ []
    dotted = e ∙ ap (λ t. before ++ t) (last_dot l n) ∙ sym (append_assoc before _ _)

    without_last : (xs : Octets) → take (length (xs ++ 46 ∷ []) - 1) (xs ++ 46 ∷ []) ≡ xs
    without_last xs = grind (arith, length-append, ap₂, take_at)
