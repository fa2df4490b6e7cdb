-- Fields that are written in order, and the rows of the types that have them.
use Rattle.dns_rdata.proofs.Common.{◌≡◌, ℕ, ◌+◌, ◌<◌, max, true, false, List, [], ◌∷◌, ◌++◌, length, drop, replicate, slice_index_or, Option, Some, None, refl, sym, ap, ◌∙◌, subst, arith, add-one, drop-cons, append_assoc, and_parts, false≢true, none-some, is_some, option_map, unwrap_or, list_all, Octets, Field, strings, Part, cut, other_type, fields_of, valid, field_front, are_strings, row_of, word_fields, are_strings_alone, words_by, unknown_words, string_count, word_text, word_front, field_words, data_text, all_strings, cut_into, cut_data, field_of, fields_in, AreCut, has_one_word, spaced}
use Rattle.dns_spec.specs.Data as Data
use Rattle.dns_rdata.specs.declared.table.Field as code
use Rattle.dns_rdata.proofs.PartLemmas.{cut_none, more_are_cut}
use Rattle.dns_rdata.proofs.SpacedWords.{space, joined_words}
use Rattle.dns_spec.proofs.DataWords.SaidAgain.{is_counted, front_dropped, only_strings, words_counted, some_string, row_has_forms}

field_there : (f : Field) (fs : List Field) (d : Octets)
    → is_some (cut (f ∷ fs) d) ≡ true → is_some (field_front f d) ≡ true
field_there f fs d h = grind (arith, false≢true, cut_none)

-- writing the word of a field leaves the octets after that field
after_field : (f : Field) (d : Octets) (part : Part) (rest : Octets)
    → is_counted f ≡ true → field_front f d ≡ Some (part, rest) → (word_front f d).1 ≡ rest
after_field f d part rest h h1 = grind (arith, front_dropped, false≢true, none-some)

more_fields : (f : Field) (fs : List Field) (d : Octets) → is_counted f ≡ true
    → is_some (cut (f ∷ fs) d) ≡ true → is_some (cut fs (word_front f d).1) ≡ true
more_fields f fs d one h = go (field_front f d) refl
  where
    go : (y : Option (Part × Octets))
        → field_front f d ≡ y → is_some (cut fs (word_front f d).1) ≡ true
    go None e = absurd (false≢true (ap is_some (sym (cut_none f fs d e)) ∙ h))
    go (Some (part, rest)) e = ap (λ o. is_some (cut fs o)) (after_field f d part rest one e)
        ∙ sym (more_are_cut f fs d part rest e) ∙ h

one_word : (f : Field) → is_counted f ≡ true → has_one_word f ≡ true
one_word f h = grind arith

-- the fields from index i on: the field there, and those after it
module _ (fields : List code.Field)
    (i : ℕ) (d : code.Field) (inside : i < length fields) (octets : Octets) where
  split : fields_in
      (drop i fields) ≡ field_of (slice_index_or fields i d) ∷ fields_in (drop (i + 1) fields)
  split = grind (arith, drop-cons)

  pub there-at : AreCut (drop i fields) octets
      → is_some (field_front (field_of (slice_index_or fields i d)) octets) ≡ true
  there-at h = field_there _ _ octets (subst (λ fs. is_some (cut fs octets) ≡ true) split h)

  counted : list_all is_counted (fields_in (drop i fields)) ≡ true
      → (is_counted (field_of (slice_index_or fields i d)) ≡ true)
      × (list_all is_counted (fields_in (drop (i + 1) fields)) ≡ true)
  counted h = and_parts _ _ (ap (list_all is_counted) (sym split) ∙ h)

  pub one-at : list_all is_counted (fields_in (drop i fields)) ≡ true
      → has_one_word (field_of (slice_index_or fields i d)) ≡ true
  one-at h = one_word _ (counted h).0

  pub more-at : list_all is_counted (fields_in (drop i fields)) ≡ true
      → AreCut (drop i fields) octets → AreCut (drop (i + 1) fields)
      (word_front (field_of (slice_index_or fields i d)) octets).1
  more-at all h = grind (arith, more_fields, split)

  pub spaced-at : (before : Octets) → spaced before (field_words (fields_in (drop i fields)) octets)
      ≡ (before ++ word_text (word_front (field_of (slice_index_or fields i d)) octets).0)
      ++ spaced space (field_words (fields_in (drop (i + 1) fields))
      (word_front (field_of (slice_index_or fields i d)) octets).1)
  spaced-at before = grind (arith, split, append_assoc)

pub counted-after : (fields : List code.Field) (i : ℕ) → i < length fields
    → list_all is_counted (fields_in (drop i fields)) ≡ true
    → list_all is_counted (fields_in (drop (i + 1) fields)) ≡ true
counted-after [] i inside h = absurd (omega (arith, inside))
counted-after (f ∷ fs) i inside h = (counted (f ∷ fs) i f inside [] h).1

module _ (t : ℕ) (row : Data.TypeRow) (found : Some row ≡ row_of t) (d : Octets) where
  -- the text of data, if its words are those of the fields `fs`
  text_by : (fs : List Field) → word_fields (string_count 0 d) row.fields ≡ fs
      → spaced [] (field_words fs d) ≡ data_text t d
  unfolding data_text
  text_by fs is =
      ap (λ gs. spaced [] (field_words gs d)) (sym is)
      ∙ ap (λ (r : Option Data.TypeRow). spaced [] (words_by
      (option_map (λ (x : Data.TypeRow). word_fields (string_count 0 d) x.fields) r) d)) found
      ∙ sym (joined_words (words_by (option_map
      (λ (x : Data.TypeRow). word_fields (string_count 0 d) x.fields) (row_of t)) d))

  -- unless `strings` is the only field, each field has one word
  pub row_counted : are_strings_alone row.fields ≡ false → list_all is_counted row.fields ≡ true
  row_counted other = grind (arith, row_has_forms)

  pub row_text : are_strings_alone row.fields ≡ false
      → spaced [] (field_words row.fields d) ≡ data_text t d
  row_text other = text_by row.fields (words_counted _ row.fields (row_counted other))

  module _ (alone : are_strings_alone row.fields ≡ true) (ok : valid t d ≡ true) where
    are : (length d ≡ 0 → ⊥) × (are_strings 0 d ≡ true)
    are =
        let c = cut_data t d ok in
        let is : fields_of t ≡ strings ∷ [] =
        ap (λ r. (unwrap_or r other_type).fields) (sym found) ∙ only_strings row.fields alone in
        let f = cut_into strings [] d c.cut_parts (ap (λ fs. cut fs d) (sym is) ∙ c.is_cut) in
        let all = all_strings d f.rest f.part f.front in
        (λ none. omega (arith, none, all.0), all.1)

    pub row_strings : are_strings 0 d ≡ true
    row_strings = are.1

    pub strings_text :
        spaced [] (field_words (replicate (string_count 0 d) strings) d) ≡ data_text t d
    strings_text =
        let some = some_string d (omega (arith, are.0)) in
        let count : max 1 (string_count 0 d) ≡ string_count 0 d = omega (arith, some) in
        text_by _ (ap (word_fields (string_count 0 d)) (only_strings row.fields alone)
        ∙ ap (λ j. replicate j strings) count)

-- data of a type without a mnemonic has the text of the generic form
pub other_text : (t : ℕ) (d : Octets)
    → None ≡ row_of t → spaced [] (unknown_words d) ≡ data_text t d
unfolding data_text
other_text t d none = grind (arith, joined_words)
