-- Whether octets begin with labels is decided by the octets after the first label.
use Rattle.dns_rdata.proofs.Common.{◌≡◌, ℕ, zero, suc, ◌-◌, ◌<◌, ◌≤◌, true, false, Option, None, Some, [], ◌∷◌, ◌++◌, length, take, drop, get_or, refl, sym, ap, ◌∙◌, arith, append_assoc, length-append, take-append-drop, and_parts, and_from, take_at, drop_at, length-take-le, list_all, Octets, DomainName, wire, is_label, name_of, name, domain, field_front, are_strings, IsName-is_name, IsLabel-is_label, is_label-IsLabel, is_name-IsName, name_read, name_of-wire, wire_fronts_agree, labels_of, IsWireForm, labels_of_spelled, IsWireForm-wire, StandsAfterLabels, HasNoLabels}

positive : (n : ℕ) → (n ≡ 0 → ⊥) → 0 < n
positive n h = grind arith

-- reading labels from `rest` on ends at the same octets as reading them from `octets` on
pub record Alike (octets rest : Octets) : Type 0 where
  pub found : (after : Octets) → StandsAfterLabels rest after → StandsAfterLabels octets after
  pub none : HasNoLabels rest → HasNoLabels octets

-- octets that begin with labels are not empty
pub nothing_begins : (rest : Octets) → length rest ≡ 0 → HasNoLabels rest
nothing_begins rest none after h = by_cases h.labels (ap length (sym h.whole) ∙ none)
  where
    by_cases : (n : DomainName) → length (wire n ++ after) ≡ 0 → ⊥
    by_cases [] e = absurd (omega arith)
    by_cases (l ∷ n) e = absurd (omega arith)

-- octets that begin with too great a length, or with a label that ends past their end, do not begin
-- with labels
pub no_label_there : (rest others : Octets) (k : ℕ)
    → rest ≡ k ∷ others → (k ≡ 0 → ⊥) → (k ≤ 63 → k ≤ length others → ⊥) → HasNoLabels rest
no_label_there rest others k e some bad after h = by_cases h.labels h.are_labels (sym h.whole ∙ e)
  where
    by_cases : (n : DomainName) → list_all is_label n ≡ true → wire n ++ after ≡ k ∷ others → ⊥
    by_cases [] ok f = some (sym (ap (λ (xs : Octets). get_or xs 0 0) f))
    by_cases (l ∷ n) ok f = grind (arith, IsLabel-is_label, and_parts, length-append)

-- after a label, reading goes on with the octets after it
pub label_passed : (octets rest others : Octets) (k : ℕ) → Alike octets rest
    → rest ≡ k ∷ others → (k ≡ 0 → ⊥) → k ≤ 63 → k ≤ length others → Alike octets (drop k others)
label_passed octets rest others k alike e some fits there = record {
  found = λ after h. alike.found after (longer after h);
  none = λ h. alike.none (λ after b. shorter after h b.labels b.are_labels (sym b.whole ∙ e));
}
  where
    longer : (after : Octets)
        → StandsAfterLabels (drop k others) after → StandsAfterLabels rest after
    longer after h =
        let l = take k others in
        let long : length l ≡ k = length-take-le k others there in
        let label : is_label l ≡ true =
        is_label-IsLabel l (positive (length l) (λ z. some (sym long ∙ z))) (omega arith) in
        record {
          labels = l ∷ h.labels;
          are_labels = and_from (is_label l) (list_all is_label h.labels) label h.are_labels;
          whole = grind (arith, take-append-drop, append_assoc);
        }

    shorter : (after : Octets) → HasNoLabels (drop k others)
        → (n : DomainName) → list_all is_label n ≡ true → wire n ++ after ≡ k ∷ others → ⊥
    shorter after none [] ok f = some (sym (ap (λ (xs : Octets). get_or xs 0 0) f))
    shorter after none (l ∷ n) ok f =
        let first : length l ≡ k = ap (λ (xs : Octets). get_or xs 0 0) f in
        let others_are : l ++ (wire n ++ after) ≡ others =
        sym (append_assoc l (wire n) after) ∙ ap (drop 1) f in
        none after (record {
          labels = n;
          are_labels = (and_parts (is_label l) (list_all is_label n) ok).1;
          whole = ap (drop k) (sym others_are) ∙ drop_at l (wire n ++ after) k first;
        })

pub no_front_name : (octets : Octets) → HasNoLabels octets → name_of octets ≡ None
no_front_name octets none = go (name_of octets) refl
  where
    go : (y : Option (DomainName × Octets)) → name_of octets ≡ y → y ≡ None
    go None e = refl
    go (Some (n, rest)) e =
        let r = name_read octets n rest e in
        absurd (none rest
        (record { labels = n; are_labels = (IsName-is_name n r.0).labels; whole = r.1 }))

-- the octets up to those after the name are its wire form
wire_taken : (octets after : Octets) (n : DomainName) (k : ℕ) → octets ≡ wire n ++ after
    → k ≡ length octets - length after → (take k octets ≡ wire n) × (drop k octets ≡ after)
wire_taken octets after n k e f = grind (arith, length-append, take_at, drop_at)

-- if labels are too long for a name, no name is cut
pub long_name : (octets after front : Octets) (k : ℕ) → StandsAfterLabels octets after → front
    ≡ take k octets → k ≡ length octets - length after → 255 < length front → name_of octets ≡ None
long_name octets after front k h e f long = go (name_of octets) refl
  where
    go : (y : Option (DomainName × Octets)) → name_of octets ≡ y → y ≡ None
    go None _ = refl
    go (Some (n, rest)) g =
        let r = name_read octets n rest g in
        let name = IsName-is_name n r.0 in
        let same : n ≡ h.labels = (wire_fronts_agree n h.labels rest after name.labels h.are_labels
        (sym r.1 ∙ h.whole)).0 in
        let long_wire : front ≡ wire h.labels =
        e ∙ (wire_taken octets after h.labels k h.whole f).0 in
        absurd (omega (arith, name.fits, ap length long_wire, ap (λ m. length (wire m)) same))

-- if labels are not too long, they are cut as a name, in its wire form
pub short_name : (octets after front rest : Octets) (k : ℕ) → StandsAfterLabels octets after → front
    ≡ take k octets → rest ≡ drop k octets → k ≡ length octets - length after → length front ≤ 255
    → (field_front domain octets ≡ Some (name (labels_of front), rest)) × IsWireForm front
short_name octets after front rest k h e g f short =
    grind (arith, wire_taken, is_name-IsName, name_of-wire, labels_of_spelled, IsWireForm-wire)

-- k octets of a string are skipped
pub strings_after : (k : ℕ) (os : Octets)
    → k ≤ length os → are_strings k os ≡ are_strings 0 (drop k os)
strings_after zero os h = refl
strings_after (suc k) [] h = absurd (omega arith)
strings_after (suc k) (o ∷ os) h = strings_after k os (omega arith)

pub strings_cut : (k : ℕ) (os : Octets) → length os < k → are_strings k os ≡ false
strings_cut zero os h = absurd (omega arith)
strings_cut (suc k) [] h = refl
strings_cut (suc k) (o ∷ os) h = strings_cut k os (omega arith)
