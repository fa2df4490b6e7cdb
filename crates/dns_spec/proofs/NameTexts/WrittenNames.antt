-- What is written for a name is read back as that name.
use Rattle.dns_spec.proofs.Common.{◌≡◌, ◌≢◌, ℕ, suc, ◌<◌, ◌≤◌, All, inl, inr, true, [], ◌∷◌, ◌++◌, length, refl, sym, ap, subst, arith, length-append, Octets, DomainName, is_name, SpellsOctet, LabelThen, TextSpells, SpellsName, octet_text, label_text, labels_text, name_text, append_assoc, codes}
use Rattle.dns_spec.proofs.DomainNames.NameLaws.{IsLabel-is_label, is_label-head}

-- an octet's text spells it
octet_spelled : (x : ℕ) → x < 256 → SpellsOctet (octet_text x) x
unfolding octet_text
octet_spelled x h = grind arith

label_spelled : (l rest : Octets) → All (λ o. o < 256) l → LabelThen (label_text l ++ rest) l rest
label_spelled [] rest h = refl
label_spelled (x ∷ l) rest h = (
  octet_text x,
  label_text l ++ rest,
  append_assoc (octet_text x) (label_text l) rest,
  octet_spelled x (h 0 0 (omega arith)),
  label_spelled l rest (λ k d e. h (suc k) d (omega arith)),
)

labels_spelled : (origin n : DomainName)
    → All (All (λ o. o < 256)) n → TextSpells origin (labels_text n) n
labels_spelled origin [] h = refl
labels_spelled origin (l ∷ n) h =
    let spelled = label_spelled l (46 ∷ labels_text n) (h 0 [] (omega arith)) in
    let text : label_text l ++ 46 ∷ labels_text n ≡ labels_text (l ∷ n) =
    sym (append_assoc (label_text l) (46 ∷ []) (labels_text n)) in
    inr (
      labels_text n,
      subst (λ t. LabelThen t l (46 ∷ labels_text n)) text spelled,
      labels_spelled origin n (λ k d e. h (suc k) d (omega arith)),
    )

-- the text of a label and its dot has at least two octets
pub labels_text_long : (l : Octets) (n : DomainName)
    → 0 < length l → 2 ≤ length (labels_text (l ∷ n))
unfolding octet_text
labels_text_long [] n h = absurd (omega arith)
labels_text_long (x ∷ l) n h = grind (arith, length-append)

pub name_spelled : (origin n : DomainName)
    → All (All (λ o. o < 256)) n → is_name n ≡ true → SpellsName origin (name_text n) n
name_spelled origin [] h ok = record { spelled = inr (inl (refl, refl)); is_name = ok }
name_spelled origin (l ∷ n) h ok =
    let long = labels_text_long l n (IsLabel-is_label l (is_label-head l n ok)).some in
    let origin_text : name_text (l ∷ n) ≢ codes "@" = λ e. absurd (omega (arith, ap length e)) in
    let no_text : name_text (l ∷ n) ≢ [] = λ e. absurd (omega (arith, ap length e)) in
    let spelled = labels_spelled origin (l ∷ n) h in
    record { spelled = inr (inr (origin_text, no_text, spelled)); is_name = ok }
