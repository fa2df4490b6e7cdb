-- The words that are written for valid data spell that data again; none of them ends early, and a
-- reader reads them whole.
use Rattle.dns_spec.proofs.Common.{length-replicate, ◌≡◌, ℕ, suc, ◌<◌, ◌≤◌, ◌⊎◌, inl, inr, true, false, Bool, ◌||◌, max, Option, None, Some, List, [], ◌∷◌, length, drop, replicate, nat_le, refl, sym, ◌∙◌, ap, subst, arith, false≢true, and_parts, and_from, leb-true, or_cases, none-some, cond_some, some_pair_parts, option_map, unwrap_or, list_all, Octets, DomainName, name_of, ipv4, ipv6, Field, domain, string, strings, anything, TypeRow, row_of, other_type, fields_of, Part, name, part_octets, octets_front, field_front, cut, valid, lower_case, Word, word_fields, word_fields_of, SaysTyped, SaysAsSpelled, Says, are_strings_alone, is_word_octet, word_front, field_words, string_count, words_by, written_words, unknown_words, hex_words, stands_alone, AllByRecursion, number}
use Rattle.dns_spec.proofs.DomainNames.SmallOctets.{Small, small_back}
use Rattle.dns_spec.proofs.DataWords.WrittenData.{cut_into, all_strings, field_whole}
use Rattle.dns_spec.proofs.DomainNames.WireNames.{name_read}
use Rattle.dns_spec.proofs.DataWords.LoweredData.{cut_data}
use Rattle.dns_spec.proofs.DataWords.HexAgain.{unknown_said}
use Rattle.dns_spec.proofs.DataWords.WordRuns.{runs_escaped}
use Rattle.dns_spec.proofs.DataWords.StandingWords.{TakenWhole, decimal_standing, hex_alone, hex_runs}
use Rattle.dns_spec.proofs.DataWords.FormsAgain.{WordsSaid, is_unmarked, none_said, said_step, ipv4_front_said, ipv6_front_said, name_front_said, string_front_said, number_front_said, strings_said}
use Rattle.dns_spec.proofs.General.Tests.{entry_passes}

-- a field that is written as one word; numbers have at most 64 bits
abbrev pub is_counted : Field → Bool
is_counted (number k) = nat_le k 8
is_counted strings = false
is_counted anything = false
is_counted f = true

pub front_dropped : (k : ℕ) (os : Octets) (part : Part) (rest : Octets)
    → octets_front k os ≡ Some (part, rest) → (k ≤ length os) × (drop k os ≡ rest)
front_dropped k os part rest h = grind (arith, cond_some, leb-true)

field_said : (origin : DomainName) (f : Field) (fs : List Field) (d : Octets)
    (part : Part) (rest : Octets) → is_counted f ≡ true → field_front f d ≡ Some (part, rest)
    → Small d → WordsSaid fs origin rest → WordsSaid (f ∷ fs) origin d
field_said origin (number k) fs d part rest counted h small others =
    let f = front_dropped k d part rest h in
    said_step _ fs origin d (drop k d) (number_front_said k origin d (leb-true k 8 counted)
    f.0 small) (subst (WordsSaid fs origin) (sym f.1) others)
field_said origin ipv4 fs d part rest counted h small others =
    let f = front_dropped 4 d part rest h in
    said_step _ fs origin d (drop 4 d)
    (ipv4_front_said origin d f.0 small) (subst (WordsSaid fs origin) (sym f.1) others)
field_said origin ipv6 fs d part rest counted h small others =
    let f = front_dropped 16 d part rest h in
    said_step _ fs origin d (drop 16 d)
    (ipv6_front_said origin d f.0 small) (subst (WordsSaid fs origin) (sym f.1) others)
field_said origin domain fs d part rest counted h small others = go (name_of d) refl h
  where
    go : (y : Option (DomainName × Octets))
        → name_of d ≡ y → option_map {T = DomainName × Octets} {U = Part × Octets}
        (λ r. (name r.0, r.1)) y ≡ Some (part, rest) → WordsSaid (domain ∷ fs) origin d
    go None e f = absurd (none-some (part, rest) f)
    go (Some (n, tail)) e f =
        let p = some_pair_parts (name n) part tail rest f in
        let r = name_read d n tail e in
        said_step domain fs origin d tail (name_front_said origin d n tail e r.0 r.1 small)
        (subst (WordsSaid fs origin) (sym p.1) others)
field_said origin string fs [] part rest counted h small others = grind (arith, none-some)
field_said origin string fs (k ∷ d) part rest counted h small others =
    let f = front_dropped (suc k) (k ∷ d) part rest h in
    said_step string fs origin (k ∷ d) (drop k d) (string_front_said origin k d
    (omega (arith, f.0)) small) (subst (WordsSaid fs origin) (sym f.1) others)
field_said origin strings fs d part rest counted h small others = absurd (false≢true counted)
field_said origin anything fs d part rest counted h small others = absurd (false≢true counted)

fields_said : (origin : DomainName) (fs : List Field) (d : Octets) (xs : List Part)
    → list_all is_counted fs ≡ true → cut fs d ≡ Some xs → Small d → WordsSaid fs origin d
unfolding cut
fields_said origin [] [] xs counted h small = none_said origin
fields_said origin [] (o ∷ d) xs counted h small = absurd (none-some xs h)
fields_said origin (f ∷ fs) d xs counted h small =
    let c = cut_into f fs d xs h in
    let each = and_parts (is_counted f) (list_all is_counted fs) counted in
    let after = small_back
    (part_octets c.part) c.rest (subst Small (field_whole f d c.part c.rest c.front) small) in
    field_said origin f fs d c.part c.rest each.0 c.front small
    (fields_said origin fs c.rest c.others each.1 c.more after)

-- if each of the fields is written as one word, words have to spell these fields, however many
-- words there are
pub words_counted : (k : ℕ) (fs : List Field) → list_all is_counted fs ≡ true → word_fields k fs ≡ fs
words_counted k fs counted = grind arith

length-field_words : (fs : List Field) (d : Octets) → length (field_words fs d) ≡ length fs
length-field_words [] d = refl
length-field_words (f ∷ fs) d = ap suc (length-field_words fs (word_front f d).1)

pub only_strings : (ps : List Field) → are_strings_alone ps ≡ true → ps ≡ strings ∷ []
only_strings ps h = grind arith

-- the fields of data, which are also the fields of as many words, and the words written for it
record Formed (t : ℕ) (origin : DomainName) (d : Octets) : Type 0 where
  forms : List Field
  of_data : word_fields_of t (string_count 0 d) ≡ Some forms
  of_words : word_fields_of t (length forms) ≡ Some forms
  words : WordsSaid forms origin d

abbrev forms_by : ℕ → TypeRow → List Field
forms_by k made = word_fields k made.fields

-- the fields of a type in the table
forms_are : (t k : ℕ) (made : TypeRow)
    → row_of t ≡ Some made → word_fields_of t k ≡ Some (forms_by k made)
forms_are t k made e = ap (option_map (forms_by k)) e

counted_formed : (t : ℕ) (origin : DomainName) (d : Octets) (made : TypeRow) (xs : List Part)
    → row_of t ≡ Some made → list_all is_counted made.fields ≡ true
    → cut made.fields d ≡ Some xs → Small d → Formed t origin d
counted_formed t origin d made xs e counted h small =
    grind (arith, fields_said origin made.fields d xs counted h small)

pub some_string : (d : Octets) → 0 < length d → 0 < string_count 0 d
some_string [] some = absurd (omega (arith, some))
some_string (k ∷ d) some = omega arith

strings_formed : (t : ℕ) (origin : DomainName) (d : Octets) (made : TypeRow) (xs : List Part)
    → row_of t ≡ Some made
    → made.fields ≡ strings ∷ [] → cut (strings ∷ []) d ≡ Some xs → Small d → Formed t origin d
strings_formed t origin d made xs e alone h small =
    let c = cut_into strings [] d xs h in
    let all = all_strings d c.rest c.part c.front in
    let k = string_count 0 d in
    let fs = replicate k strings in
    let count : max 1 k ≡ k = omega (arith, some_string d all.0) in
    let forms : forms_by k made ≡ fs = grind arith in
    let long : length fs ≡ k = length-replicate k strings in
    record {
      forms = fs;
      of_data = forms_are t k made e ∙ ap (λ x. Some x) forms;
      of_words = ap (word_fields_of t) long ∙ forms_are t k made e ∙ ap (λ x. Some x) forms;
      words = strings_said k origin d refl all.1 small;
    }

abbrev pub has_forms : TypeRow → Bool
has_forms made = list_all is_counted made.fields || are_strings_alone made.fields

pub row_has_forms : (t : ℕ) (made : TypeRow) → row_of t ≡ Some made → has_forms made ≡ true
row_has_forms t made e = grind (arith, entry_passes)

formed : (t : ℕ) (origin : DomainName) (d : Octets) (made : TypeRow)
    → row_of t ≡ Some made → valid t d ≡ true → Small d → Formed t origin d
formed t origin d made e ok small = by_cases (or_cases
    (list_all is_counted made.fields) (are_strings_alone made.fields) (row_has_forms t made e))
  where
    fields : fields_of t ≡ made.fields
    fields = ap (λ r. (unwrap_or r other_type).fields) e

    by_cases : (list_all is_counted made.fields ≡ true) ⊎ (are_strings_alone made.fields ≡ true)
        → Formed t origin d
    by_cases (inl counted) = grind (arith, cut_data, counted_formed, fields)
    by_cases (inr alone) =
        let c = cut_data t d ok in
        let is = only_strings made.fields alone in
        strings_formed t origin d made c.cut_parts e is
        (ap (λ ps. cut ps d) (sym (fields ∙ is)) ∙ c.is_cut) small

-- words are read by the fields of the type, unless the first word is the mark of the generic form
as_typed : (t : ℕ) (origin : DomainName) (ws : List Word) (d : Octets)
    → is_unmarked ws ≡ true → SaysTyped t origin ws d → SaysAsSpelled t origin ws d
as_typed t origin ws d h h1 = grind arith

typed_said : (t : ℕ) (origin : DomainName) (d : Octets)
    → Formed t origin d → SaysAsSpelled t origin (written_words t d) d
typed_said t origin d f = grind (arith, length-field_words, as_typed)

-- data of a type without a mnemonic is written in the generic form
unnamed_words : (t : ℕ) (d : Octets) → row_of t ≡ None → written_words t d ≡ unknown_words d
unnamed_words t d e = ap (λ o. words_by (option_map (forms_by (string_count 0 d)) o) d) e

pub said_again : (t : ℕ) (origin : DomainName) (d : Octets)
    → Small d → valid t d ≡ true → SaysAsSpelled t origin (written_words t d) d
said_again t origin d small ok = go (row_of t) refl
  where
    go : (r : Option TypeRow) → row_of t ≡ r → SaysAsSpelled t origin (written_words t d) d
    go None e = grind (arith, unknown_said)
    go (Some made) e = typed_said t origin d (formed t origin d made e ok small)

pub data_said : (t : ℕ) (origin : DomainName) (d : Octets)
    → Small d → valid t d ≡ true → Says t (written_words t d) origin (lower_case t d)
data_said t origin d small ok = grind (arith, said_again)

unknown_alone : (d : Octets)
    → length d ≤ 65535 → Small d → list_all stands_alone (unknown_words d) ≡ true
unknown_alone d short small = and_from _ _ refl
    (and_from _ _ (decimal_standing (length d) (omega (arith, short))).alone (hex d small))
  where
    hex : (d : Octets) → Small d → list_all stands_alone (hex_words d) ≡ true
    hex [] small = refl
    hex (o ∷ d) small = and_from _ _ (hex_alone o d small) refl

pub words_alone : (t : ℕ) (d : Octets)
    → Small d → valid t d ≡ true → list_all stands_alone (written_words t d) ≡ true
words_alone t d small ok = go (row_of t) refl
  where
    go : (r : Option TypeRow) → row_of t ≡ r → list_all stands_alone (written_words t d) ≡ true
    go None e = ap (list_all stands_alone) (unnamed_words t d e)
        ∙ unknown_alone d (cut_data t d ok).short small
    go (Some made) e =
        let f = formed t [] d made e ok small in cc

unknown_whole : (d : Octets) → length d ≤ 65535 → Small d
    → AllByRecursion TakenWhole (unknown_words d)
unknown_whole d short small = (
  runs_escaped is_word_octet 35 refl refl,
  ((decimal_standing (length d) (omega (arith, short))).whole, hex d small),
)
  where
    hex : (d : Octets) → Small d → AllByRecursion TakenWhole (hex_words d)
    hex [] small = tt
    hex (o ∷ d) small = (hex_runs (o ∷ d) small, tt)

pub words_whole : (t : ℕ) (d : Octets)
    → Small d → valid t d ≡ true → AllByRecursion TakenWhole (written_words t d)
words_whole t d small ok = go (row_of t) refl
  where
    go : (r : Option TypeRow) → row_of t ≡ r → AllByRecursion TakenWhole (written_words t d)
    go None e = subst (AllByRecursion TakenWhole)
        (sym (unnamed_words t d e)) (unknown_whole d (cut_data t d ok).short small)
    go (Some made) e =
        let f = formed t [] d made e ok small in
        subst (λ o. AllByRecursion TakenWhole (words_by o d)) (sym f.of_data) f.words.whole
