-- What words spell by the fields of a type is valid data of the type, provided that it is not too
-- long. What is stored is that data, with its names in lower case.
use Rattle.dns_rdata.proofs.Common.{◌≡◌, ◌↔◌, ℕ, zero, suc, ◌==◌, ◌≤◌, ◌⊎◌, inl, inr, true, false, nat_le, List, [], ◌∷◌, ◌++◌, map, max, length, replicate, Option, Some, refl, sym, ap, ◌∙◌, subst, arith, append-nil, length-append, list_all, is_some, option_map, unwrap_or, MatchOption, DataFaultIs, FieldsFaultIs, TypedFaultIs, to_ascii_lowercase, and_parts, and_from, le-leb, ne_eqb, false≢true, drop_at, flat_map-cons, Octets, DomainName, number, ipv4, ipv6, Field, domain, string, strings, anything, Part, octets, name, part_octets, part_folded, joined, strings_front, field_front, are_strings, cut, other_type, row_of, fields_of, Valid, Word, SaysWord, SaysFields, SaysTyped, SaysAsSpelled, Says, are_strings_alone, word_fields, map-lowercase-wire, IsName-is_name, cut-domain, cut-step, lowered_data, length-bytes_high_first, canonical_octets, is_marked}
use Rattle.dns_spec.specs.AllFaults.{FaultyData, FaultyField, FaultyTyped}
use Rattle.std.specs.Prelude.{◌+◌}
use Rattle.dns_spec.proofs.Common.{TypeRow, or_cases}
use Rattle.dns_rdata.proofs.NameFronts.{strings_after}
use Rattle.dns_rdata.proofs.Ipv6Lemmas.{length-ipv6}
use Rattle.dns_rdata.proofs.FormFronts.{SaysKept, Taken, kept_said}
use Rattle.dns_spec.proofs.DataWords.SaidAgain.{is_counted, only_strings, words_counted, row_has_forms}
use Rattle.dns_spec.proofs.DataWords.MadeData.{cut-octets}

-- the octets x that a word spells are cut as the field f, whatever follows them
record Front (f : Field) (x back : Octets) : Type 0 where
  part : Part
  front : field_front f (x ++ back) ≡ Some (part, back)
  lowered : part_octets (part_folded part) ≡ canonical_octets f x

field_said : (f : Field) (origin : DomainName) (w : Word) (x back : Octets)
    → is_counted f ≡ true → SaysWord f origin w x → Front f x back
field_said (number k) origin w x back one word =
    let long = ap length word.said.3 ∙ length-bytes_high_first k word.said.0 in
    record { part = octets x; front = cut-octets k x back long; lowered = refl }
field_said ipv4 origin w x back one word =
    record { part = octets x; front = cut-octets 4 x back word.said.four; lowered = refl }
field_said ipv6 origin w x back one word =
    let long = length-ipv6 w.raw x word.said in
    record { part = octets x; front = cut-octets 16 x back long; lowered = refl }
field_said domain origin w x back one word =
    let (n, spelled, is) = word.said in
    record {
      part = name n;
      front = ap (λ z. field_front domain (z ++ back)) is ∙ cut-domain n back spelled.is_name;
      lowered = sym (ap (map to_ascii_lowercase) is
          ∙ map-lowercase-wire n (IsName-is_name n spelled.is_name).labels);
    }
field_said string origin w x back one word =
    let (s, short, spelled, is) = word.said in
    record {
      part = octets (length s ∷ s);
      front = ap (λ z. field_front string (z ++ back)) is
          ∙ cut-octets (suc (length s)) (length s ∷ s) back refl;
      lowered = sym is;
    }
field_said strings origin w x back one word = absurd (false≢true one)
field_said anything origin w x back one word = absurd (false≢true one)

-- d is cut into parts by the fields, and e is d with its names in lower case
record CutInto (fs : List Field) (d e : Octets) : Type 0 where
  pub cut_parts : List Part
  pub is_cut : cut fs d ≡ Some cut_parts
  pub lowered : joined (map part_folded cut_parts) ≡ e

fields_said : (origin : DomainName) (fs : List Field) (ws : List Word) (d e : Octets)
    → list_all is_counted fs ≡ true → SaysKept fs origin ws d e → CutInto fs d e
unfolding cut
fields_said origin [] [] d e ok h =
    record { cut_parts = []; is_cut = ap (cut []) h.0; lowered = sym h.1 }
fields_said origin [] (w ∷ ws) d e ok h = absurd h
fields_said origin (f ∷ fs) [] d e ok h = absurd h
fields_said origin (f ∷ fs) (w ∷ ws) d e ok (x, back, low, is, kept_is, word, h) =
    let tests = and_parts (is_counted f) (list_all is_counted fs) ok in
    let r = field_said f origin w x back tests.0 word in
    let c = fields_said origin fs ws back low tests.1 h in
    record {
      cut_parts = r.part ∷ c.cut_parts;
      is_cut = cut-step f fs d r.part back c.cut_parts (ap (field_front f) is ∙ r.front) c.is_cut;
      lowered = flat_map-cons part_octets (part_folded r.part) (map part_folded c.cut_parts)
          ∙ ap (λ z. z ++ joined (map part_folded c.cut_parts)) r.lowered
          ∙ ap (λ z. canonical_octets f x ++ z) c.lowered ∙ sym kept_is;
    }

-- strings one after another
many_strings : (m : ℕ) (origin : DomainName) (ws : List Word) (d e : Octets) → SaysKept
    (replicate m strings) origin ws d e → (are_strings 0 d ≡ true) × (d ≡ e) × (m ≤ length d)
many_strings zero origin [] d e h = (ap (are_strings 0) h.0, h.0 ∙ sym h.1, omega arith)
many_strings zero origin (w ∷ ws) d e h = absurd h
many_strings (suc m) origin [] d e h = absurd h
many_strings (suc m) origin (w ∷ ws) d e (front, back, low, is, kept_is, word, h) =
    grind (arith, (many_strings m origin ws back low h), strings_after, length-append, drop_at)

all_strings_front : (d : Octets)
    → are_strings 0 d ≡ true → 1 ≤ length d → strings_front d ≡ Some (octets d, [])
all_strings_front d ok some = grind arith

strings_said : (k : ℕ) (origin : DomainName) (ws : List Word) (d e : Octets)
    → SaysKept (replicate (max 1 k) strings) origin ws d e → CutInto (strings ∷ []) d e
unfolding cut
strings_said k origin ws d e h =
    let r = many_strings (max 1 k) origin ws d e h in
    record {
      cut_parts = octets d ∷ [];
      is_cut = cut-step strings [] d (octets d) [] []
          (all_strings_front d r.0 (omega (arith, r.2))) refl;
      lowered = append-nil d ∙ r.1;
    }

row_said : (t k : ℕ) (row : TypeRow) (origin : DomainName) (ws : List Word) (d e : Octets)
    → row_of t ≡ Some row → SaysKept (word_fields k row.fields) origin ws d e
    → CutInto row.fields d e
row_said t k row origin ws d e is h =
    by_cases (or_cases (list_all is_counted row.fields) (are_strings_alone row.fields)
    (row_has_forms t row is))
  where
    by_cases : (list_all is_counted row.fields ≡ true) ⊎ (are_strings_alone row.fields ≡ true)
        → CutInto row.fields d e
    by_cases (inl counted) = fields_said origin row.fields ws d e counted
        (subst (λ fs. SaysKept fs origin ws d e) (words_counted k row.fields counted) h)
    by_cases (inr alone) = grind (arith, strings_said)

-- what words spell by a row of the table
abbrev TypedBy : Option TypeRow → DomainName → List Word → Octets → Type 0
TypedBy row origin ws d = MatchOption (option_map (λ
    (r : TypeRow). word_fields (length ws) r.fields) row) ⊥ (λ fs. SaysFields fs origin ws d)

-- words whose first is not `\#` spell data if and only if they spell it in the form of the type
pub spelled_typed : (t : ℕ) (origin : DomainName) (ws : List Word) (d : Octets)
    → is_marked ws ≡ false → SaysAsSpelled t origin ws d ↔ SaysTyped t origin ws d
spelled_typed t origin [] d plain = (λ h. h, λ h. h)
spelled_typed t origin (w ∷ ws) d plain = grind arith

-- words whose first is not `\#` have the fault that they have in the form of the type
fault_typed : (t : ℕ) (origin : DomainName) (ws : List Word) (k : ℕ)
    → is_marked ws ≡ false → TypedFaultIs t origin ws k → DataFaultIs t ws origin k
fault_typed t origin [] k plain h = h
fault_typed t origin (w ∷ ws) k plain h = grind arith

-- and so is the faulty word
faulty_typed : (t : ℕ) (origin : DomainName) (ws : List Word) (i : ℕ) → is_marked ws ≡ false
    → (length ws ≡ 0 → ⊥) → FaultyTyped t origin ws i → FaultyData t ws origin i
faulty_typed t origin [] i plain some h = absurd (some refl)
faulty_typed t origin (w ∷ ws) i plain some h = grind arith

-- the lower-case data that words spell is valid too
pub said_valid : (t : ℕ) (ws : List Word) (origin : DomainName) (d : Octets)
    → Says t ws origin d → Valid t d
said_valid t ws origin d said =
    subst (Valid t) said.lower (lowered_data t said.as_spelled said.is_valid).0

-- what words spell by the row of the type
module _ (t : ℕ) (row : TypeRow) (origin : DomainName) (ws : List Word) (count : ℕ)
    (plain : is_marked ws ≡ false) (is : Some row ≡ row_of t) (counted : count ≡ length ws) where
  pub typed_fault : (k : ℕ) → true ≡ (length (word_fields count row.fields) == count)
      → FieldsFaultIs (word_fields count row.fields) origin 0 ws k → DataFaultIs t ws origin k
  typed_fault k many fault = grind arith

  typed_at : (i : ℕ) → true ≡ (length (word_fields count row.fields) == count)
      → FaultyField (word_fields count row.fields) origin 0 ws i → FaultyData t ws origin (i + 1)
  typed_at i many fault =
      faulty_typed t origin ws (i + 1) plain (some ws (word_fields count row.fields) fault)
      (rw (sym is) (rw (sym counted) (rw (sym many) (i, fault, omega arith))))
    where
      some : (ws : List Word) (fs : List Field) → FaultyField fs origin 0 ws i → length ws ≡ 0 → ⊥
      some [] [] h e = h
      some [] (f ∷ fs) h e = h
      some (w ∷ ws) fs h e = omega (arith, e)

  pub typed_at_place : (i index : ℕ)
      → true ≡ (length (word_fields count row.fields) == count) → i ≡ index
      → FaultyField (word_fields count row.fields) origin 0 ws (i + 0)
      → FaultyData t ws origin (index + 1)
  typed_at_place i index many is_place fault = grind arith

  -- all words were taken
  module _ (e : Octets) (a : Taken (word_fields count row.fields) [] origin ws [] e) where
    whole : SaysKept (word_fields count row.fields) origin ws a.spelled e
    whole = simp append-nil at (a.on [] [] (refl, refl))

    cut_of : CutInto row.fields a.spelled e
    cut_of = row_said t count row origin ws a.spelled e (sym is) whole

    pub typed_said : length e ≤ 65535 → Says t ws origin e
    typed_said short =
        let said = subst (λ k. SaysFields (word_fields k row.fields) origin ws a.spelled)
        counted (kept_said _ origin ws a.spelled e whole) in
        let cut_is : cut (fields_of t) a.spelled ≡ Some cut_of.cut_parts =
        ap (λ r. cut (unwrap_or r other_type).fields a.spelled) (sym is) ∙ cut_of.is_cut in
        record {
          as_spelled = a.spelled;
          said = (spelled_typed t origin ws a.spelled plain).1
              (subst (λ r. TypedBy r origin ws a.spelled) is said);
          is_valid = and_from (nat_le (length a.spelled) 65535) _
              (le-leb (length a.spelled) 65535 (omega (arith, short, a.as_long))) (ap is_some cut_is);
          lower = ap (λ y. joined (map part_folded (unwrap_or y (octets a.spelled ∷ [])))) cut_is
              ∙ cut_of.lowered;
        }
