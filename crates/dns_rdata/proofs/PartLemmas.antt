-- The parts of data, in order.
use Rattle.dns_rdata.proofs.Common.{◌==◌, ◌≡◌, ℕ, suc, ◌≤◌, true, Option, None, Some, All, List, [], ◌∷◌, map, length, refl, sym, ap, ◌∙◌, subst, arith, leb-true, false≢true, false_from_ne_true, eqb-true, nil_from_length, All-nil, All-cons, none-some, same_Some, is_some, unwrap_or, option_map, Octets, cut, field_front, valid, lower_case, fields_of, cut_into, name_part, octets_part, all_strings, cut_data, lowered_data, field_of, fields_in, part_for, shown_part, with_octets, parts_left, AreCut, IsWirePart, HasName}
use Rattle.dns_spec.specs.Data as Data
use Rattle.dns_rdata.specs.declared.table.Field.{Field}
use Rattle.dns_rdata.specs.declared.parts.Part.{Part}
use Rattle.dns_spec.proofs.General.Options.{is_some-option_map}
use Rattle.dns_spec.proofs.General.Tests.{entry_passes}

-- after the first part, the other fields are cut from the octets that follow it
pub cut_more : (p : Data.Field) (ps : List Data.Field)
    (os : Octets) (part : Data.Part) (rest : Octets) → field_front p os ≡ Some (part, rest)
    → cut (p ∷ ps) os ≡ option_map (λ xs. part ∷ xs) (cut ps rest)
unfolding cut
cut_more p ps os part rest e = grind arith

pub cut_none : (p : Data.Field) (ps : List Data.Field) (os : Octets)
    → field_front p os ≡ None → cut (p ∷ ps) os ≡ None
unfolding cut
cut_none p ps os e = grind arith

pub more_are_cut :
    (p : Data.Field) (ps : List Data.Field) (os : Octets) (part : Data.Part) (rest : Octets)
    → field_front p os ≡ Some (part, rest) → is_some (cut (p ∷ ps) os) ≡ is_some (cut ps rest)
more_are_cut p ps os part rest e =
    ap is_some (cut_more p ps os part rest e) ∙ is_some-option_map (λ xs. part ∷ xs) (cut ps rest)

pub no_fields_left : (ps : List Field) (os : Octets)
    → length ps ≡ 0 → is_some (cut (fields_in ps) os) ≡ (length os == 0)
unfolding cut
no_fields_left ps os e = grind (arith, nil_from_length, false_from_ne_true, eqb-true)

pub no_parts_left : (ps : List Field) (os : Octets) → length ps ≡ 0 → parts_left ps os ≡ []
unfolding cut
no_parts_left ps os e = grind (arith, nil_from_length)

-- the parts left are the first part, followed by those of the other fields
pub parts_left-cons : (p : Field) (ps : List Field) (os : Octets) (part : Data.Part) (rest : Octets)
    → field_front (field_of p) os ≡ Some (part, rest)
    → AreCut (p ∷ ps) os → parts_left (p ∷ ps) os ≡ part ∷ parts_left ps rest
parts_left-cons p ps os part rest e are =
    ap (λ y. unwrap_or y []) (cut_more (field_of p) (fields_in ps) os part rest e)
    ∙ go (cut (fields_in ps) rest)
    (sym (more_are_cut (field_of p) (fields_in ps) os part rest e) ∙ are)
  where
    go : (y : Option (List Data.Part))
        → is_some y ≡ true → unwrap_or (option_map (λ xs. part ∷ xs) y) [] ≡ part ∷ unwrap_or y []
    go None f = absurd (false≢true f)
    go (Some xs) f = refl

-- names that are cut are valid
front_name : (p : Data.Field) (os : Octets) (part : Data.Part) (rest : Octets)
    → field_front p os ≡ Some (part, rest) → HasName part
front_name p os part rest h =
    grind (arith, octets_part, name_part, none-some, all_strings, same_Some)

cut_names : (ps : List Data.Field) (os : Octets) (xs : List Data.Part)
    → cut ps os ≡ Some xs → All HasName xs
unfolding cut
cut_names [] [] xs h = subst (All HasName) (same_Some [] xs h) (All-nil HasName)
cut_names [] (o ∷ os) xs h = absurd (none-some xs h)
cut_names (p ∷ ps) os xs h =
    let c = cut_into p ps os xs h in
    subst (All HasName) c.whole
    (All-cons HasName c.part c.others
    (front_name p os c.part c.rest c.front) (cut_names ps c.rest c.others c.more))

pub names_left : (ps : List Field) (os : Octets) → All HasName (parts_left ps os)
names_left ps os = grind (arith, All-nil, cut_names)

-- no type has more than seven fields
few_fields : (t : ℕ) → length (fields_of t) ≤ 7
few_fields t = grind (arith, leb-true, entry_passes)

cut_length : (ps : List Data.Field) (os : Octets) (xs : List Data.Part)
    → cut ps os ≡ Some xs → length xs ≡ length ps
unfolding cut
cut_length [] [] xs h = ap length (sym (same_Some [] xs h))
cut_length [] (o ∷ os) xs h = absurd (none-some xs h)
cut_length (p ∷ ps) os xs h =
    let c = cut_into p ps os xs h in
    ap length (sym c.whole) ∙ ap suc (cut_length ps c.rest c.others c.more)

pub few_parts : (t : ℕ) (ps : List Field) (os : Octets)
    → fields_in ps ≡ fields_of t → length (parts_left ps os) ≤ 7
few_parts t ps os e = go (cut (fields_in ps) os) refl
  where
    go : (y : Option (List Data.Part)) → cut (fields_in ps) os ≡ y → length (unwrap_or y []) ≤ 7
    go None f = omega arith
    go (Some xs) f = omega (arith, cut_length (fields_in ps) os xs f, ap length e, few_fields t)

pub shown_first : (p : Field) (ps : List Field) (os : Octets) (x : Part)
    (rest : Octets) (left : List Data.Part) → field_front (field_of p) os ≡ Some (part_for x, rest)
    → IsWirePart x → AreCut (p ∷ ps) os → parts_left (p ∷ ps) os ≡ left
    → map with_octets left ≡ shown_part x ∷ map with_octets (parts_left ps rest)
shown_first p ps os x rest left e borrowed are view = grind (arith, parts_left-cons)

pub length-lower_case : (t : ℕ) (d : Octets) → valid t d ≡ true → length (lower_case t d) ≤ 65535
length-lower_case t d ok = (cut_data t (lower_case t d) (lowered_data t d ok).0).short
