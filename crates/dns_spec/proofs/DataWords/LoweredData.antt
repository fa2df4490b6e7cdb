-- The parts of data joined are the data, and data in lower case is cut into the same fields.
use Rattle.dns_spec.proofs.Common.{◌≡◌, ℕ, ◌≤◌, true, Some, List, [], ◌∷◌, ◌++◌, map, length, refl, sym, ap, ◌∙◌, subst, arith, append-nil, length-append, and_parts, and_from, leb-true, le-leb, false≢true, none-some, same_Some, nil_from_length, flat_map-cons, to_ascii_lowercase, Octets, DomainName, folded, Field, domain, fields_of, Part, octets, name, part_octets, joined, part_folded, field_front, cut, valid, parts, lower_case, lowercase-lowercase}
use Rattle.dns_spec.proofs.DomainNames.NameLaws.{is_name-folded, length-wire-folded}
use Rattle.dns_spec.proofs.DataWords.WrittenData.{cut_into, name_part, field_whole, field_again, octets_field}
use Rattle.dns_spec.proofs.DataWords.MadeData.{cut-domain, cut-step}

pub cut_whole : (ps : List Field) (os : Octets) (xs : List Part)
    → cut ps os ≡ Some xs → joined xs ≡ os
unfolding cut
cut_whole [] [] xs h = ap joined (sym (same_Some [] xs h))
cut_whole [] (o ∷ os) xs h = absurd (none-some xs h)
cut_whole (p ∷ ps) os xs h =
    let c = cut_into p ps os xs h in
    ap joined (sym c.whole)
    ∙ flat_map-cons part_octets c.part c.others
    ∙ ap (λ x. part_octets c.part ++ x) (cut_whole ps c.rest c.others c.more)
    ∙ sym (field_whole p os c.part c.rest c.front)

pub length-lowered : (xs : List Part) → length (joined (map part_folded xs)) ≡ length (joined xs)
length-lowered [] = refl
length-lowered (x ∷ xs) = grind (arith, length-wire-folded, length-append, (length-lowered xs))

none_after : (rest other : Octets) → rest ≡ [] → length other ≡ length rest → other ≡ []
none_after rest other e f = nil_from_length other (f ∙ ap length e)

-- a field in lower case is the same field, even if what follows it is different
field_lowered : (p : Field) (os : Octets) (part : Part) (rest other : Octets)
    → field_front p os ≡ Some (part, rest) → length other ≡ length rest
    → field_front p (part_octets (part_folded part) ++ other) ≡ Some (part_folded part, other)
field_lowered domain os part rest other h same =
    grind (arith, name_part, cut-domain, is_name-folded)
field_lowered p os part rest other h same =
    subst (λ x. field_front p (part_octets x ++ other) ≡ Some (x, other))
    (sym (subst (λ x. part_folded x ≡ x) (octets_field p os rest part (grind arith) h) refl))
    (field_again p os part rest other h (λ none. none_after rest other none same))

pub cut_lowered : (ps : List Field) (os : Octets) (xs : List Part)
    → cut ps os ≡ Some xs → cut ps (joined (map part_folded xs)) ≡ Some (map part_folded xs)
unfolding cut
cut_lowered [] [] xs h = grind (arith, same_Some)
cut_lowered [] (o ∷ os) xs h = absurd (none-some xs h)
cut_lowered (p ∷ ps) os xs h =
    let c = cut_into p ps os xs h in
    let other = joined (map part_folded c.others) in
    let same : length other ≡ length c.rest =
    length-lowered c.others ∙ ap length (cut_whole ps c.rest c.others c.more) in
    subst (λ x. cut (p ∷ ps) (joined (map part_folded x)) ≡ Some (map part_folded x)) c.whole
    (ap (cut (p ∷ ps)) (flat_map-cons part_octets (part_folded c.part) (map part_folded c.others))
    ∙ cut-step p ps (part_octets (part_folded c.part) ++ other)
    (part_folded c.part) other (map part_folded c.others)
    (field_lowered p os c.part c.rest other c.front same) (cut_lowered ps c.rest c.others c.more))

label_lowered : (l : Octets)
    → map to_ascii_lowercase (map to_ascii_lowercase l) ≡ map to_ascii_lowercase l
label_lowered [] = refl
label_lowered (o ∷ l) = grind (arith, lowercase-lowercase, (label_lowered l))

pub folded_folded : (n : DomainName) → folded (folded n) ≡ folded n
folded_folded [] = refl
folded_folded (l ∷ n) = grind (arith, label_lowered, (folded_folded n))

part_folded-twice : (x : Part) → part_folded (part_folded x) ≡ part_folded x
part_folded-twice (octets o) = refl
part_folded-twice (name n) = ap name (folded_folded n)

parts_folded-twice : (xs : List Part) → map part_folded (map part_folded xs) ≡ map part_folded xs
parts_folded-twice [] = refl
parts_folded-twice (x ∷ xs) = grind (arith, part_folded-twice, (parts_folded-twice xs))

-- what valid data is cut into
pub record CutData (t : ℕ) (d : Octets) : Type 0 where
  pub short : length d ≤ 65535
  pub cut_parts : List Part
  pub is_cut : cut (fields_of t) d ≡ Some cut_parts
  pub parts_are : parts t d ≡ cut_parts

pub cut_data : (t : ℕ) (d : Octets) → valid t d ≡ true → CutData t d
cut_data t d ok = grind (arith, and_parts, leb-true, false≢true)

pub joined-parts : (t : ℕ) (d : Octets) → joined (parts t d) ≡ d
joined-parts t d = grind (arith, append-nil, cut_whole)

-- data in lower case has the same parts, with folded names
pub lowered_data : (t : ℕ) (d : Octets) → valid t d ≡ true
    → (valid t (lower_case t d) ≡ true) × (parts t (lower_case t d) ≡ map part_folded (parts t d))
lowered_data t d ok =
    grind (arith, cut_data, cut_lowered, length-lowered, cut_whole, and_from, le-leb)

pub lowered-twice : (t : ℕ) (d : Octets)
    → valid t d ≡ true → lower_case t (lower_case t d) ≡ lower_case t d
lowered-twice t d ok = ap (λ x. joined (map part_folded x)) (lowered_data t d ok).1
    ∙ ap joined (parts_folded-twice (parts t d))
