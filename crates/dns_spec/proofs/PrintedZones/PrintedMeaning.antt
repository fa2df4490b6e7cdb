-- The text of records means these records.
use Rattle.dns_spec.proofs.Common.{◌≡◌, ℕ, suc, ◌+◌, ◌<◌, ◌≤◌, true, false, All, Some, None, List, [], ◌∷◌, ◌++◌, map, length, take, refl, sym, ◌∙◌, ap, subst, arith, codes, decimal, rules, lt-leb, le-ltb, take_all, is_ascii_digit, AllDigits, Octets, DomainName, octet_text, name_text, type_text, NamesType, Word, Says, plain, written_words, ResourceRecord, bad_owner, IsReadRecord, HasZoneType, record_line, decimal_is_IsNumeral, list_any, filter, flat_map, Token, most_octets, TokensThen, cut_entries, begins_with, Entry, Entries, ended, with_end, lexical_fault, whole_text, extent_by, gives, owned, kind_of, Fields, fields, directive_word, is_record, OriginIs, NameIs, IsRecord, most_records, RecordGives, KindGives, EntryGives, records, EntriesMean, Means, AllByRecursion, recursion_from_All}
use Rattle.dns_spec.proofs.NameTexts.WrittenNames.{name_spelled}
use Rattle.dns_spec.proofs.DataWords.SaidAgain.{data_said}
use Rattle.dns_spec.proofs.PrintedZones.PrintedLines.{line_tokens, line_pieces_read, line_cut, line_parentheses, line_words_again}
use Rattle.dns_spec.proofs.ZoneTexts.GivenRecords.{record_given, given_then}
use Rattle.dns_spec.proofs.ZoneTexts.TextTokens.{tokens_then}

-- the tokens of the lines, in order
lines_tokens : List ResourceRecord → List Token
lines_tokens [] = []
lines_tokens (r ∷ rs) = line_tokens r ++ lines_tokens rs

lines_read : (rs : List ResourceRecord)
    → AllByRecursion IsReadRecord rs → TokensThen (flat_map record_line rs) (lines_tokens rs) []
unfolding lines_tokens
lines_read [] h = refl
lines_read (r ∷ rs) h =
    search (rules, tokens_then, line_tokens, lines_tokens, line_pieces_read, (lines_read rs h.1))

abbrev line_entry : ResourceRecord → Entry
line_entry r = ended (line_tokens r)

-- an entry for each line, and nothing after the last
abbrev lines_entries : List ResourceRecord → List Entry
lines_entries rs = map line_entry rs ++ ended [] ∷ []

lines_cut : (rs : List ResourceRecord)
    → cut_entries false (lines_tokens rs) ≡ map line_tokens rs ++ [] ∷ []
unfolding lines_tokens
lines_cut [] = refl
lines_cut (r ∷ rs) = line_cut r (lines_tokens rs) ∙ ap (λ es. line_tokens r ∷ es) (lines_cut rs)

lines_ended : (rs : List ResourceRecord)
    → with_end whole_text [] (map line_tokens rs ++ [] ∷ []) ≡ lines_entries rs
lines_ended [] = refl
lines_ended (r ∷ []) = refl
lines_ended (r ∷ s ∷ rs) = ap (λ es. line_entry r ∷ es) (lines_ended (s ∷ rs))

text_entries : (rs : List ResourceRecord) → AllByRecursion IsReadRecord rs → length
    (flat_map record_line rs) ≤ most_octets → Entries (flat_map record_line rs) (lines_entries rs)
text_entries rs h short =
    let text = flat_map record_line rs in
    let within = ap (λ goes_on. with_end (extent_by goes_on)
    [] (cut_entries false (lines_tokens rs))) (le-ltb most_octets (length text) short) in
    record {
      tokens = lines_tokens rs;
      rest = [];
      spelled = search (rules, take_all, lines_read);
      at_end = refl;
      entries = sym (within ∙ ap (with_end whole_text []) (lines_cut rs) ∙ lines_ended rs);
    }

-- the text of a name is not a directive
name_begins : (n : DomainName) → begins_with 36 (name_text n) ≡ false
unfolding octet_text
name_begins [] = refl
name_begins ([] ∷ n) = refl
name_begins ((x ∷ l) ∷ n) = grind arith

-- the words of a line after the owner, and its fields
abbrev words_after : ResourceRecord → List Word
words_after r = plain
    (decimal r.ttl) ∷ plain (codes "IN") ∷ plain (type_text r.rtype) ∷ written_words r.rtype r.rdata

line_kind : (r : ResourceRecord)
    → kind_of (line_entry r) ≡ owned (plain (name_text r.owner)) (words_after r)
line_kind r = grind (arith, line_words_again, name_begins)

digits_begin : (x : Octets)
    → 0 < length x → AllDigits 10 x → list_any is_ascii_digit (take 1 x) ≡ true
digits_begin x h h1 = grind arith

abbrev line_fields : ResourceRecord → Fields
line_fields r = record {
  ttl = Some (plain (decimal r.ttl));
  class = Some (plain (codes "IN"));
  others = plain (type_text r.rtype) ∷ written_words r.rtype r.rdata;
}

fields_are : (r : ResourceRecord) → IsReadRecord r → fields (words_after r) ≡ line_fields r
fields_are r h = grind (arith, digits_begin, decimal_is_IsNumeral)

line_faultless : (r : ResourceRecord) → lexical_fault (line_entry r) ≡ None
line_faultless r = grind (arith, line_parentheses)

-- the text of a type names it
type_named : (t : ℕ) → t < 65536 → NamesType (type_text t) t
type_named t small = grind arith

-- the entry is not `$ORIGIN`; without `$ORIGIN`, the origin stays
abbrev KeepsOrigin : Entry → Type 0
KeepsOrigin e = directive_word (codes "$origin") (kind_of e) ≡ None

origin_stays : (o : DomainName) (earlier : List Entry)
    → AllByRecursion KeepsOrigin earlier → OriginIs o earlier o
origin_stays o [] h = refl
origin_stays o (e ∷ earlier) h = grind (arith, (origin_stays o earlier h.1))

line_record : (o : DomainName) (earlier : List Entry) (r : ResourceRecord)
    → OriginIs o earlier o → IsReadRecord r → HasZoneType r
    → IsRecord o earlier (NameIs o earlier (plain (name_text r.owner))) (line_fields r) r
line_record o earlier r origin h zone_type = record {
  owner = (
    r.owner,
    (refl, (o, origin, name_spelled o r.owner h.owner_octets h.owner)),
    sym h.lower_owner,
  );
  ttl = (refl, refl, h.ttl);
  rtype = (refl, type_named r.rtype h.rtype, zone_type);
  rdata = (
    r.rtype,
    (refl, type_named r.rtype h.rtype, zone_type),
    (
      o,
      origin,
      subst (Says r.rtype (written_words r.rtype r.rdata) o) h.lower_data
          (data_said r.rtype o r.rdata h.rdata_octets h.rdata),
    ),
  );
}

line_given : (o : DomainName) (earlier : List Entry) (r : ResourceRecord) → OriginIs o earlier o
    → IsReadRecord r → HasZoneType r → length (filter is_record earlier) < most_records
    → EntryGives o earlier (line_entry r) (gives (r ∷ []))
line_given o earlier r origin h zone_type few =
    let answer = gives (r ∷ []) in
    let Owner = NameIs o earlier (plain (name_text r.owner)) in
    let given : RecordGives o earlier bad_owner Owner (line_fields r) answer =
    search (rules, record_given, line_record, lt-leb)
    in
    let by_words : KindGives o earlier (owned (plain (name_text r.owner)) (words_after r)) answer =
    subst (λ f. RecordGives o earlier bad_owner Owner f answer) (sym (fields_are r h)) given
    in
    let by_kind : KindGives o earlier (kind_of (line_entry r)) answer =
    subst (λ s. KindGives o earlier s answer) (sym (line_kind r)) by_words in
    grind (arith, line_faultless)

line_keeps_origin : (r : ResourceRecord) → KeepsOrigin (line_entry r)
line_keeps_origin r = ap (directive_word (codes "$origin")) (line_kind r)

line_counts : (r : ResourceRecord) (earlier : List Entry)
    → length (filter is_record (line_entry r ∷ earlier)) ≡ suc (length (filter is_record earlier))
line_counts r earlier = grind (arith, line_kind)

lines_mean : (o : DomainName) (earlier : List Entry) (rs : List ResourceRecord)
    → AllByRecursion KeepsOrigin
    earlier → AllByRecursion IsReadRecord rs → AllByRecursion HasZoneType rs
    → length (filter is_record earlier)
    + length rs ≤ most_records → EntriesMean o earlier (lines_entries rs) (records rs)
lines_mean o earlier [] keeps h types few = grind (arith, given_then)
lines_mean o earlier (r ∷ rs) keeps h types few =
    given_then o earlier (line_entry r) (lines_entries rs) (r ∷ []) (records rs)
    (line_given o earlier r (origin_stays o earlier keeps) h.0 types.0 (omega (arith, few)))
    (lines_mean o (line_entry r ∷ earlier) rs
    (line_keeps_origin r, keeps) h.1 types.1 (omega (arith, few, line_counts r earlier)))

pub printed_again : (o : DomainName) (rs : List ResourceRecord) → All IsReadRecord rs
    → All HasZoneType rs → length rs ≤ most_records → length (flat_map record_line rs) ≤ most_octets
    → Means o (flat_map record_line rs) (records rs)
printed_again o rs all types few short =
    let each = recursion_from_All IsReadRecord rs all in
    grind (arith, text_entries, lines_mean, recursion_from_All)
