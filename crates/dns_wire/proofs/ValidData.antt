-- Data that is read is valid for its type and has at most 65,535 octets.
use Rattle.dns_wire.proofs.Common.{AllByRecursion, ◌≡◌, ◌≢◌, ℕ, ◌+◌, ◌-◌, ◌<◌, ◌≤◌, Bool, true, false, ◌||◌, nat_le, ◌==◌, if◌then◌else◌, List, [], ◌∷◌, ◌++◌, length, take, drop, Some, None, ◌&&◌, is_some, option_map, unwrap_or, refl, sym, ap, ◌∙◌, subst, arith, length-append, length-take-le, length-drop, nil_from_length, and_parts, leb-true, eqb-true, list_all, find, Octets, DomainName, wire, class_in, Field, number, ipv4, ipv6, domain, anything, TypeRow, other_type, Part, name, part_octets, field_front, cut, valid, RunAt, ends, goes_on, jumps, name_at, name_at_computes, field_at, fields_at, data_at, field_again, field_whole, octets_part, front_taken, IsName-is_name, more_are_cut, data_fields, fields_of, none-some, le-leb, rules, inl, inr, ◌⊎◌, cond_some, false≢true}
use Rattle.std.proofs.lemmas.Bool.{and_from, or_cases}
use Rattle.dns_spec.specs.Data.{type_table}
use Rattle.dns_spec.specs.Reading.{name_inside}
use Rattle.dns_spec.proofs.DataWords.MadeData.{cut-domain}
use Rattle.dns_spec.proofs.General.Options.{and_then_some, map_some}

-- a name has at least one octet
run_past : {b : Octets} {s i e : ℕ} {n : DomainName} → RunAt b s i n e → i < e
run_past (ends i at) = omega arith
run_past (goes_on i k l n e at some short within is rest) = let later = run_past rest in omega arith
run_past (jumps i o o' p n e at high at' is from before rest) = omega arith

-- a field other than a name
is_run : Field → Bool
is_run domain = false
is_run _ = true

-- the most octets of a name or a number; for other fields more than data may have
most : Field → ℕ
most (number k) = k
most ipv4 = 4
most ipv6 = 16
most domain = 255
most _ = 65536

most_of : List Field → ℕ
most_of [] = 0
most_of (f ∷ fs) = most f + most_of fs

-- Either no field is a name, or the fields together have at most 65,535 octets.
bounded : List Field → Bool
bounded fs = list_all is_run fs || nat_le (most_of fs) 65535

few_octets : (f : Field) (os : Octets) (part : Part) (rest : Octets)
    → f ≢ domain → most f ≤ 65535 → field_front f os ≡ Some (part, rest)
    → length (part_octets part) ≤ most f
unfolding most
few_octets (number k) os part rest other fits h = grind (arith, octets_part, front_taken)
few_octets ipv4 os part rest other fits h = grind (arith, octets_part, front_taken)
few_octets ipv6 os part rest other fits h = grind (arith, octets_part, front_taken)
few_octets domain os part rest other fits h = absurd (other refl)
few_octets f os part rest other fits h = absurd (omega arith)

module _ (b : Octets) (e : ℕ) (within : e ≤ length b) where
  -- what holds for a field that is read from offset i up to offset j, and for fields that are read
  -- from offset i on
  record ReadField (f : Field) (i j : ℕ) (o : Octets) : Type 0 where
    forward : i ≤ j
    inside : j ≤ e
    none : i ≡ e → o ≡ []
    run : is_run f ≡ true → i + length o ≡ j
    few : most f ≤ 65535 → length o ≤ most f
    part : Part
    front : (rest : Octets) → (j ≡ e → rest ≡ []) → field_front f (o ++ rest) ≡ Some (part, rest)

  record ReadFields (fs : List Field) (i : ℕ) (d : Octets) : Type 0 where
    none : i ≡ e → d ≡ []
    run : list_all is_run fs ≡ true → i + length d ≡ e
    few : most_of fs ≤ 65535 → length d ≤ most_of fs
    whole : is_some (cut fs d) ≡ true

  name_read : (i j : ℕ) (o : Octets) → field_at b domain i e ≡ Some (o, j) → ReadField domain i j o
  unfolding most is_run
  name_read i j o h =
      let at = and_then_some (name_inside e) (name_at b i) (o, j) h in
      let n = at.0.0 in
      let test = cond_some (nat_le at.0.1 e) (wire n, at.0.1) (o, j) at.2 in
      let there = (name_at_computes b i n at.0.1).0 at.1 in
      let inside = leb-true at.0.1 e test.0 in
      let past = run_past there.0 in
      subst (λ (r : Octets × ℕ). ReadField domain i r.1 r.0) test.1 (record {
        forward = omega (arith, past);
        inside = inside;
        none = λ end. absurd (omega (arith, past, inside));
        run = λ no. absurd (false≢true no);
        few = λ fits. (IsName-is_name n there.1).fits;
        part = name n;
        front = λ rest last. cut-domain n rest there.1;
      })

  other_at : (f : Field) (i : ℕ) → f ≢ domain → field_at b f i e
      ≡ option_map (λ r. (part_octets r.0, e - length r.1)) (field_front f (take (e - i) (drop i b)))
  other_at f i other = grind arith

  other_read : (f : Field) (i j : ℕ) (o : Octets)
      → f ≢ domain → i ≤ e → field_at b f i e ≡ Some (o, j) → ReadField f i j o
  other_read f i j o other ordered h =
      let own = take (e - i) (drop i b) in
      map_some (λ r. (part_octets r.0, e - length r.1)) (field_front f own) (o, j)
      (sym (other_at f i other) ∙ h) (λ r is same.
      let long : length (part_octets r.0) + length r.1 ≡ e - i =
      sym (length-append (part_octets r.0) r.1)
      ∙ ap length (sym (field_whole f own r.0 r.1 is))
      ∙ length-take-le (e - i) (drop i b) (omega (arith, length-drop i b, within, ordered)) in
      subst (λ (x : Octets × ℕ). ReadField f i x.1 x.0) same (record {
        forward = omega (arith, long, ordered);
        inside = omega arith;
        none = λ end. nil_from_length (part_octets r.0) (omega (arith, long, end));
        run = λ yes. omega (arith, long, ordered);
        few = λ fits. few_octets f own r.0 r.1 other fits is;
        part = r.0;
        front = λ rest last. field_again f own r.0 r.1 rest is
            (λ none. last (omega (arith, ap length none)));
      }))

  field_read : (f : Field) (i j : ℕ) (o : Octets)
      → i ≤ e → field_at b f i e ≡ Some (o, j) → ReadField f i j o
  field_read domain i j o ordered h = name_read i j o h
  field_read f i j o ordered h = other_read f i j o (grind arith) ordered h

  fields_read : (fs : List Field) (i : ℕ) (d : Octets)
      → i ≤ e → fields_at b fs i e ≡ Some d → ReadFields fs i d
  unfolding fields_at cut most_of
  fields_read [] i d ordered h =
      let test = cond_some (i == e) [] d h in
      subst (ReadFields [] i) test.1 (record {
        none = λ end. refl;
        run = λ yes. omega (arith, eqb-true i e test.0);
        few = λ fits. omega arith;
        whole = refl;
      })
  fields_read (f ∷ fs) i d ordered h =
      let one = and_then_some (λ r. option_map (λ x. r.0 ++ x) (fields_at b fs r.1 e))
      (field_at b f i e) d h in
      let o = one.0.0 in
      let j = one.0.1 in
      let first = field_read f i j o ordered one.1 in
      let inside = first.inside in
      map_some (λ x. o ++ x) (fields_at b fs j e) d one.2 (λ rest others same.
      let after = fields_read fs j rest inside others in
      let long = length-append o rest in
      subst (ReadFields (f ∷ fs) i) same (record {
        none = λ end. ap (λ x. x ++ rest) (first.none end)
            ∙ after.none (omega (arith, first.forward, inside, end));
        run = λ yes.
            let tests = and_parts (is_run f) (list_all is_run fs) yes in
            omega (arith, long, first.run tests.0, after.run tests.1);
        few = λ fits.
            omega (
              arith,
              long,
              first.few (omega (arith, fits)),
              after.few (omega (arith, fits)),
            );
        whole = more_are_cut f fs (o ++ rest) first.part rest (first.front rest after.none)
            ∙ after.whole;
      }))

  short : (fs : List Field) (i : ℕ) (d : Octets)
      → bounded fs ≡ true → e - i ≤ 65535 → ReadFields fs i d → length d ≤ 65535
  unfolding bounded
  short fs i d bound fits read =
      go (or_cases (list_all is_run fs) (nat_le (most_of fs) 65535) bound)
    where
      go : (list_all is_run fs ≡ true) ⊎ (nat_le (most_of fs) 65535 ≡ true) → length d ≤ 65535
      go (inl runs) = omega (arith, read.run runs, fits)
      go (inr low) = grind arith

-- what holds for `other_type` and for each row of the table with the number t holds for the row of
-- type t
pub by_row : (t : ℕ) (P : TypeRow → Type 0) (rows : List TypeRow) → P other_type
    → AllByRecursion (λ row. row.number ≡ t → P row) rows
    → P (unwrap_or (find (λ (row : TypeRow). row.number == t) rows) other_type)
by_row t P [] other each = other
by_row t P (row ∷ others) other each = grind (arith, eqb-true, (by_row t P others other each.1))

fields_of_data : (b : Octets) (t c i e : ℕ) (d : Octets) → data_at b t c i e ≡ Some d
    → (i ≤ e) × (e ≤ length b) × (fields_at b (data_fields t c) i e ≡ Some d)
fields_of_data b t c i e d h = go (nat_le i e) (nat_le e (length b)) refl refl h
  where
    go : (s t' : Bool) → nat_le i e ≡ s → nat_le e (length b) ≡ t'
        → (if s && t' then fields_at b (data_fields t c) i e else None) ≡ Some d
        → (i ≤ e) × (e ≤ length b) × (fields_at b (data_fields t c) i e ≡ Some d)
    go true true p q g = (leb-true i e p, leb-true e (length b) q, g)
    go true false p q g = absurd (none-some d g)
    go false t' p q g = absurd (none-some d g)

same_fields : (t c : ℕ) → data_fields t c ≡ fields_of (if c == class_in then t else 0)
same_fields t c = go (c == class_in)
  where
    go : (in_class : Bool) → (if in_class then fields_of t else anything ∷ [])
        ≡ fields_of (if in_class then t else 0)
    go true = refl
    go false = refl

bounded_fields : (t : ℕ) → bounded (fields_of t) ≡ true
unfolding bounded is_run most most_of
bounded_fields t = by_row t (λ row. bounded row.fields ≡ true) type_table refl (search rules)

-- The data of a record is valid for its type or, in a class other than IN, for a type whose data
-- is any octets.
pub data_valid : (b : Octets) (t c i e : ℕ) (d : Octets) → data_at b t c i e ≡ Some d
    → e - i ≤ 65535 → valid (if c == class_in then t else 0) d ≡ true
data_valid b t c i e d h fits =
    let r = fields_of_data b t c i e d h in
    let kind : ℕ = if c == class_in then t else 0 in
    let read = fields_read b e r.1 (fields_of kind) i d r.0
    (subst (λ fs. fields_at b fs i e ≡ Some d) (same_fields t c) r.2) in
    and_from (nat_le (length d) 65535) (is_some (cut (fields_of kind) d)) (le-leb (length d) 65535
    (short b e r.1 (fields_of kind) i d (bounded_fields kind) fits read)) read.whole
