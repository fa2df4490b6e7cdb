-- Functions that compute the records that a text means, or what a part of it means, together with
-- the proof, or give `None` if they find none.
use Rattle.dns_spec.proofs.Common.{Bool, DataIs, DirectiveSays, DomainName, EntriesGive, Entry, EntryKind, Field, Fields, FileFault, IsNoTtl, IsRecord, KindGives, List, MatchBool, MatchOption, Means, NameIs, NamesType, None, Nothing, Octets, Option, OriginIs, OwnerBefore, PlacedEntry, RecordGives, ResourceRecord, Says, SaysAsSpelled, SaysField, SaysFields, SaysString, SaysTyped, SaysUnknown, Some, SpellsName, SpellsOctet, SpellsString, TextSpells, TtlIs, TtlSays, TypeIs, Word, [], and_parts, anything, ap, are_too_many, bad_owner, bytes_high_first, codes, decimal, digits_value, directive, directive_word, domain, drop, eqb-false, eqb-true, escape_front, false, false≢true, fields, flat_map, folded, gives, hex_octets, inl, inr, ipv4, ipv4_text, ipv6, ipv6_octets, is_hex_word, is_name, is_none, is_other_class, is_unknown_mark, is_zone_type, kind_of, leb-true, length, lexical_fault, list_all, lower_case, ltb-true, map, may_be_quoted, most_ttl, nat_le, nat_lt, no_owner, no_words, none-some, not, number, numbered_type, octets_equal, option_map, owned, owner_word, placed_entries, records, refl, same_Some, slice_split, string, strings, subst, suc, sym, text_in_lower_case, true, ttl_in_force, type_by_mnemonic, unowned, valid, wire, word_fields_of, zero, ℕ, ◌&&◌, ◌++◌, ◌==◌, ◌^◌, ◌||◌, ◌∙◌, ◌∷◌, ◌≡◌, ◌≢◌, ◌⊎◌}
use Rattle.dns_spec.proofs.DomainNames.NameLaws.{octets_equal-decides}
use Rattle.dns_spec.proofs.NameTexts.Escapes.{escape_spells}
use Rattle.dns_spec.proofs.ZoneTexts.FirstFault.{first_fault}
use Rattle.dns_spec.proofs.WorkedExamples.Zones.{example}

-- a value for which P holds, if one is found
abbrev pub Found : {A : Type 0} → (A → Type 0) → Type 0
Found {A} P = Option ((v : A) × P v)

abbrev pub and_then : {A B : Type 0} → Option A → (A → Option B) → Option B
and_then None f = None
and_then (Some a) f = f a

-- what is found in the one of two cases that applies, by whether an option has a value, or by a
-- test
abbrev pub matched : {A B : Type 0} {P : B → Type 0} {Q : A → B → Type 0} (o : Option A) → Found P
    → ((a : A) → Found (Q a)) → Found (λ v. MatchOption o (P v) (λ a. Q a v))
matched None first second = first
matched (Some a) first second = second a

abbrev pub chosen : {B : Type 0} {P Q : B → Type 0} (b : Bool) → Found P → Found Q
    → Found (λ v. MatchBool b (P v) (Q v))
chosen true one other = one
chosen false one other = other

-- the proof that a test passes, and that it fails
abbrev pub holds : (b : Bool) → Option (b ≡ true)
holds true = Some refl
holds false = None

abbrev fails : (b : Bool) → Option (b ≡ true → ⊥)
fails true = None
fails false = Some (λ e. false≢true e)

-- the value of an option with its proof
abbrev pub there : {A : Type 0} (o : Option A) → Found (λ (v : A). o ≡ Some v)
there None = None
there (Some v) = Some (v, refl)

-- a proof of one of two cases, by a test
abbrev pub by_test : {P Q : Type 0} (b : Bool) → (b ≡ true → P) → (b ≡ false → Q) → P ⊎ Q
by_test true f g = inl (f refl)
by_test false f g = inr (g refl)

abbrev is_or_not : (a b : ℕ) → (a ≡ b) ⊎ (a ≢ b)
is_or_not a b = by_test (a == b) (eqb-true a b) (eqb-false a b)

abbrev same_or_not : (xs ys : Octets) → (xs ≡ ys) ⊎ (xs ≢ ys)
same_or_not xs ys =
    let are = octets_equal-decides xs ys in
    by_test (octets_equal xs ys) are.0 (λ e h. false≢true (sym e ∙ are.1 h))

abbrev pub same : (xs ys : Octets) → Option (xs ≡ ys)
same xs ys = elim (same_or_not xs ys) [ inl e ↦ Some e | inr apart ↦ None ]

-- the octet that a text begins with, as itself or escaped, and the text after it
abbrev Begins : Octets → ℕ × Octets → Type 0
Begins text u = (first : Octets) × (text ≡ first ++ u.1) × SpellsOctet first u.0

pub escaped : (c : ℕ) (cs : Octets) (u : ℕ × Octets) → c ≡ 92 → escape_front cs ≡ Some u
    → Begins (c ∷ cs) u
escaped c cs u slash e =
    let h = (escape_spells cs u.0 u.1).0 e in
    (92 ∷ h.0, ap (λ x. x ∷ cs) slash ∙ ap (λ t. 92 ∷ t) h.1, h.2)

abbrev octet_in : (text : Octets) → Found (Begins text)
octet_in [] = None
octet_in (c ∷ cs) = elim (is_or_not c 92) [
  | inl slash ↦ and_then (there (escape_front cs)) (λ u. Some (u.0, escaped c cs u.0 slash u.1))
  | inr no_slash ↦ elim (is_or_not c 46) [
    | inl dot ↦ None
    | inr no_dot ↦ Some ((c, cs), (c ∷ [], refl, (refl, no_dot, no_slash)))
  ]
]

-- The first label of a text of at most k octets, and the labels after it.
abbrev FirstLabel : DomainName → Octets → Octets × DomainName → Type 0
FirstLabel o text r = TextSpells o text (r.0 ∷ r.1)

pub one_more : (o : DomainName) (text : Octets) (u : ℕ × Octets) (r : Octets × DomainName)
    → Begins text u → FirstLabel o u.1 r → FirstLabel o text (u.0 ∷ r.0, r.1)
one_more o text u r h (inl (label, e)) = inl ((h.0, u.1, h.1, h.2, label), e)
one_more o text u r h (inr (others, label, more)) =
    inr (others, (h.0, u.1, h.1, h.2, label), more)

abbrev labels_in : ℕ → (o : DomainName) (text : Octets) → Found (FirstLabel o text)
labels_in k o [] = Some (([], o), inl (refl, refl))
labels_in zero o (c ∷ cs) = None
labels_in (suc k) o (c ∷ cs) = elim (is_or_not c 46) [
  | inl dot ↦ and_then (labels_in k o cs)
      (λ r. Some (([], r.0.0 ∷ r.0.1), inr (cs, ap (λ x. x ∷ cs) dot, r.1)))
  | inr no_dot ↦ and_then (octet_in (c ∷ cs)) (λ u. and_then (labels_in k o u.0.1)
      (λ r. Some ((u.0.0 ∷ r.0.0, r.0.1), one_more o (c ∷ cs) u.0 r.0 u.1 r.1)))
]

-- a word that spells a name
abbrev pub name_in : (o : DomainName) (text : Octets) → Found (SpellsName o text)
name_in o text = elim (same_or_not text (codes "@")) [
  | inl at ↦ and_then (holds (is_name o))
      (λ h. Some (o, record { spelled = inl (at, refl); is_name = h }))
  | inr not_at ↦ elim (same_or_not text []) [
    | inl none ↦ None
    | inr some ↦ and_then (labels_in (length text) o text) (λ r.
        and_then (holds (is_name (r.0.0 ∷ r.0.1))) (λ h.
        Some (r.0.0 ∷ r.0.1, record { spelled = inr (inr (not_at, some, r.1)); is_name = h })))
  ]
]

-- the TTL that a word states, or the proof that it states none
abbrev says_ttl : Word → ℕ → Bool
says_ttl w n = not w.is_quoted && octets_equal w.raw (decimal n) && nat_le n most_ttl

pub ttl_said : (w : Word) (n : ℕ) → says_ttl w n ≡ true → TtlSays w n
ttl_said w n h =
    let parts = and_parts (not w.is_quoted && octets_equal w.raw (decimal n)) _ h in
    let both = and_parts (not w.is_quoted) _ parts.0 in
    (both.0, (octets_equal-decides w.raw (decimal n)).0 both.1, leb-true n most_ttl parts.1)

abbrev ttl_in : (w : Word) → Found (TtlSays w)
ttl_in w =
    let n = digits_value 10 w.raw in
    and_then (holds (says_ttl w n)) (λ e. Some (n, ttl_said w n e))

-- the string that a text spells
abbrev pub string_in : ℕ → (text : Octets) → Found (SpellsString text)
string_in k [] = Some ([], refl)
string_in zero (c ∷ cs) = None
string_in (suc k) (c ∷ cs) = elim (is_or_not c 46) [
  | inl dot ↦ and_then (string_in k cs)
      (λ s. Some (46 ∷ s.0, (c ∷ [], cs, refl, inr (ap (λ x. x ∷ []) dot, refl), s.1)))
  | inr no_dot ↦ and_then (octet_in (c ∷ cs)) (λ u. and_then (string_in k u.0.1)
      (λ s. Some (u.0.0 ∷ s.0, (u.1.0, u.0.1, u.1.1, inl u.1.2, s.1))))
]

abbrev said_string : (text : Octets) → Found (SaysString text)
said_string text = and_then (string_in (length text) text)
    (λ s. and_then (holds (nat_le (length s.0) 255))
    (λ h. Some (length s.0 ∷ s.0, (s.0, leb-true (length s.0) 255 h, s.1, refl))))

-- the data that a word spells for a field, and the data that words spell
abbrev pub form_in : (f : Field) (o : DomainName) (text : Octets) → Found (SaysField f o text)
form_in (number k) o text =
    let n = digits_value 10 text in
    and_then (holds (nat_lt n (256 ^ k))) (λ small. and_then (same text (decimal n))
    (λ e. Some (bytes_high_first k n, (n, ltb-true n (256 ^ k) small, e, refl))))
form_in ipv4 o text =
    let d = map (digits_value 10) (slice_split (λ o. o == 46) text) in
    and_then (holds (length d == 4)) (λ four.
    and_then (holds (list_all (λ x. nat_lt x 256) d)) (λ small. and_then (same text (ipv4_text d))
    (λ e. Some (d, record { four = eqb-true (length d) 4 four; octets = small; spelled = e }))))
form_in ipv6 o text = there (ipv6_octets text)
form_in domain o text = and_then (name_in o text) (λ n. Some (wire n.0, (n.0, n.1, refl)))
form_in string o text = said_string text
form_in strings o text = said_string text
form_in anything o text = None

abbrev forms_in_words : (fs : List Field) (o : DomainName) (ws : List Word)
    → Found (SaysFields fs o ws)
forms_in_words [] o [] = Some ([], refl)
forms_in_words [] o (w ∷ ws) = None
forms_in_words (f ∷ fs) o [] = None
forms_in_words (f ∷ fs) o (w ∷ ws) =
    and_then (holds (may_be_quoted f || not w.is_quoted)) (λ q. and_then (form_in f o w.raw)
    (λ d. and_then (forms_in_words fs o ws)
    (λ e. Some (d.0 ++ e.0, (d.0, e.0, refl, record { quotes = q; said = d.1 }, e.1)))))

abbrev typed_in : (t : ℕ) (o : DomainName) (ws : List Word) → Found (SaysTyped t o ws)
typed_in t o ws = matched (word_fields_of t (length ws)) None (λ fs. forms_in_words fs o ws)

abbrev pub unknown_in : (ws : List Word) → Found (SaysUnknown ws)
unknown_in [] = None
unknown_in (w ∷ ws) =
    and_then (holds (not w.is_quoted)) (λ q. and_then (holds (list_all is_hex_word ws)) (λ hexes.
    and_then (there (hex_octets (flat_map (λ (v : Word). v.raw) ws)))
    (λ d. and_then (same w.raw (decimal (length d.0))) (λ e. Some (d.0, (q, e, (hexes, d.1)))))))

abbrev spelled_in : (t : ℕ) (o : DomainName) (ws : List Word) → Found (SaysAsSpelled t o ws)
spelled_in t o [] = typed_in t o []
spelled_in t o (w ∷ ws) = chosen (is_unknown_mark w) (unknown_in ws) (typed_in t o (w ∷ ws))

abbrev pub data_in : (t : ℕ) (ws : List Word) (o : DomainName) → Found (Says t ws o)
data_in t ws o = and_then (spelled_in t o ws) (λ d. and_then (holds (valid t d.0))
    (λ valid. Some (
      lower_case t d.0,
      record { as_spelled = d.0; said = d.1; is_valid = valid; lower = refl },
    )))

-- After earlier entries: the origin in force, the name that a word spells, and the TTL in force.
abbrev pub origin_after : (o : DomainName) (earlier : List Entry) → Found (OriginIs o earlier)
origin_after o [] = Some (o, refl)
origin_after o (e ∷ earlier) =
    matched (directive_word (codes "$origin") (kind_of e)) (origin_after o earlier)
    (λ w. and_then (origin_after o earlier) (λ m. and_then (name_in m.0 w.raw)
    (λ n. Some (n.0, (m.0, m.1, n.1)))))

abbrev pub name_after : (o : DomainName) (earlier : List Entry) (w : Word)
    → Found (NameIs o earlier w)
name_after o earlier w = and_then (holds (not w.is_quoted)) (λ bare.
    and_then (origin_after o earlier) (λ m. and_then (name_in m.0 w.raw)
    (λ n. Some (n.0, (bare, (m.0, m.1, n.1))))))

abbrev ttl_after : (earlier : List Entry) (stated : Option Word) → Found (TtlIs earlier stated)
ttl_after earlier stated = matched (ttl_in_force earlier stated) None ttl_in

-- the type that a word names
abbrev names_type : (raw : Octets) → Found (NamesType raw)
names_type raw = elim (there (type_by_mnemonic raw)) [
  | Some t ↦ Some (t.0, inl t.1)
  | None ↦
      let t = digits_value 10 (drop 4 raw) in
      and_then (holds (nat_lt t 65536)) (λ small.
      and_then (same (text_in_lower_case raw) (text_in_lower_case (numbered_type t)))
      (λ is. Some (t, inr (ltb-true t 65536 small, is))))
]

abbrev pub type_in : (ws : List Word) → Found (TypeIs ws)
type_in [] = None
type_in (w ∷ ws) = and_then (holds (not w.is_quoted)) (λ bare. and_then (names_type w.raw)
    (λ t. and_then (holds (is_zone_type t.0)) (λ h. Some (t.0, (bare, t.1, h)))))

abbrev pub data_after : (o : DomainName) (earlier : List Entry) (ws : List Word)
    → Found (DataIs o earlier ws)
data_after o earlier ws = and_then (type_in ws) (λ t. and_then (origin_after o earlier)
    (λ m. and_then (data_in t.0 (drop 1 ws) m.0) (λ d. Some (d.0, (t.0, t.1, (m.0, m.1, d.1))))))

-- since a value was found, `Nothing P` is false
abbrev some : {A : Type 0} {P : A → Type 0} → (v : A) × P v → Nothing P → ⊥
some f none = none f.0 f.1

abbrev ttl_stands : (stated : Option Word) → Option (IsNoTtl stated → ⊥)
ttl_stands None = Some (λ h. h)
ttl_stands (Some w) = and_then (ttl_in w) (λ n. Some (some n))

-- what stands after a fault that there is not
abbrev unless : {C D E : Type 0} → Option (C → ⊥) → Option D → Option ((C × E) ⊎ ((C → ⊥) × D))
unless stands later = and_then stands (λ not_c. and_then later (λ d. Some (inr (not_c, d))))

-- the records that an entry gives
abbrev record_given : (o : DomainName) (earlier : List Entry) (fault : FileFault)
    (Owner : DomainName → Type 0) (f : Fields) → Found Owner
    → Found (λ rs. RecordGives o earlier fault Owner f (gives rs))
record_given o earlier fault Owner f owner =
    and_then owner (λ n. and_then (ttl_after earlier f.ttl) (λ k. and_then (type_in f.others)
    (λ t. and_then (data_after o earlier f.others) (λ d.
    let r : ResourceRecord = record { owner = folded n.0; ttl = k.0; rtype = t.0; rdata = d.0 } in
    let is : IsRecord o earlier Owner f r =
    record { owner = (n.0, n.1, refl); ttl = k.1; rtype = t.1; rdata = d.1 } in
    and_then (unless (Some (some n)) (unless (ttl_stands f.ttl)
    (unless (fails (is_other_class f.class)) (unless (Some (some t))
    (unless (fails (is_none (ttl_in_force earlier f.ttl))) (unless (Some (some d))
    (unless (fails (are_too_many earlier)) (Some (r, is, refl))))))))) (λ g. Some (r ∷ [], g))))))

abbrev directive_said : {A : Type 0} (P : A → Word → Type 0)
    → ((w : Word) → Found (λ v. P v w)) → (ws : List Word) → Option (DirectiveSays P ws (gives []))
directive_said P one [] = None
directive_said P one (w ∷ v ∷ ws) = None
directive_said P one (w ∷ []) = and_then (one w) (λ v. Some (inr (some v, refl)))

abbrev whichever : {P Q : Type 0} (b : Bool) → Option P → Option Q → Option (MatchBool b P Q)
whichever true one other = one
whichever false one other = other

abbrev owner_before : (o : DomainName) (earlier : List Entry) → Found (OwnerBefore o earlier)
owner_before o [] = None
owner_before o (e ∷ earlier) =
    matched (owner_word (kind_of e)) (owner_before o earlier) (λ w. name_after o earlier w)

abbrev kind_given : (o : DomainName) (earlier : List Entry) (s : EntryKind)
    → Found (λ rs. KindGives o earlier s (gives rs))
kind_given o earlier no_words = Some ([], refl)
kind_given o earlier (directive name ws) =
    and_then (whichever (octets_equal name (codes "$origin"))
    (directive_said (λ n w. NameIs o earlier w n) (name_after o earlier) ws)
    (whichever (octets_equal name (codes "$ttl"))
    (directive_said (λ n w. TtlSays w n) ttl_in ws) None)) (λ g. Some ([], g))
kind_given o earlier (owned w ws) =
    record_given o earlier bad_owner (NameIs o earlier w) (fields ws) (name_after o earlier w)
kind_given o earlier (unowned ws) =
    record_given o earlier no_owner (OwnerBefore o earlier) (fields ws) (owner_before o earlier)

abbrev entries_given : (o : DomainName) (earlier : List Entry) (es : List PlacedEntry)
    → Found (EntriesGive o earlier es [])
entries_given o earlier [] = Some ([], (refl, refl))
entries_given o earlier (e ∷ es) = and_then (matched (lexical_fault e.entry)
    (kind_given o earlier (kind_of e.entry)) (λ f. None))
    (λ own. and_then (entries_given o (e.entry ∷ earlier) es)
    (λ rs. Some (own.0 ++ rs.0, inr (own.0, inl own.1, (rs.0, refl, rs.1)))))

-- the records that a text without a fault means, as the file of the zone `example.`
abbrev pub records_in : (text : Octets) → Found (λ rs. Means example text (records rs))
records_in text = and_then (entries_given example [] (placed_entries text))
    (λ rs. Some (rs.0, first_fault example text [] rs.0 rs.1))

-- the value found is v
pub found_is : {A : Type 0} {P : A → Type 0} (o : Found P) (v : A)
    → option_map (λ (f : (w : A) × P w). f.0) o ≡ Some v → P v
found_is None v e = absurd (none-some v e)
found_is {A} {P} (Some f) v e = subst P (same_Some f.0 v e) f.1
