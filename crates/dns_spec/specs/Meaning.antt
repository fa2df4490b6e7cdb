-- Which records the text of a zone file means, or which fault it has, and on which line.
--
-- What an entry inherits from earlier entries is found by looking back: `earlier` is the list of
-- the entries before it, nearest first.
use Rattle.std.specs.Prelude.{◌≡◌, ℕ, ◌+◌, ◌≤◌, ◌⊎◌, Bool, true, false, ◌&&◌, ◌||◌, not, List, [], ◌∷◌, ◌++◌, length, take, drop, nat_le, ◌==◌, IsTrue, if◌then◌else◌, codes, decimal, MatchOption}
use Rattle.std.specs.Prelude.{Option, None, Some}
use Rattle.std.specs.Bool.{MatchBool}
use Rattle.std.specs.Option.{option_or, is_none}
use Rattle.std.specs.List.{list_any, flat_map, filter}
use Rattle.std.specs.Char.{is_ascii_digit}
use Rattle.dns_spec.specs.Names.{Octets, DomainName, folded, octets_equal}
use Rattle.dns_spec.specs.NameText.{SpellsName}
use Rattle.dns_spec.specs.TypeText.{text_in_lower_case, NamesType}
use Rattle.dns_spec.specs.DataText.{Word, Says}
use Rattle.dns_spec.specs.Records.{ResourceRecord}
use Rattle.dns_spec.specs.FileFaults.{FileFault, unknown_directive, directive_words, bad_owner, no_owner, bad_ttl, other_class, bad_type, no_ttl, bad_data, too_many_records}
use Rattle.dns_spec.specs.ZoneText.{Entry, Entries, begins_with, is_line_end, begins_blank, entry_words, lexical_fault}

-- RFC 2181 section 8: a TTL is at most 2^31 - 1 seconds
abbrev pub most_ttl : ℕ
most_ttl = 2147483647

-- The most records that a text may have (in this product).
abbrev pub most_records : ℕ
most_records = 100000

-- What an entry means: a fault, or one record or none.
pub data EntryMeaning : Type 0 where
  faulty : FileFault → EntryMeaning
  gives : List ResourceRecord → EntryMeaning

-- P holds for no value
abbrev pub Nothing : {A : Type 0} → (A → Type 0) → Type 0
Nothing {A} P = (v : A) → P v → ⊥

-- What an entry means, by a list of faults in the order of their codes, each with its condition:
-- the first fault whose condition holds, or, if no condition holds, what `Faultless` allows.
abbrev pub Lowest : List (FileFault × Type 0) → (EntryMeaning → Type 0) → EntryMeaning → Type 0
Lowest [] Faultless given = Faultless given
Lowest ((fault, Condition) ∷ higher) Faultless given =
    (Condition × (given ≡ faulty fault)) ⊎ ((Condition → ⊥) × Lowest higher Faultless given)

-- RFC 1035 5.1: the kinds of entries. The name of a directive is in lower case.
pub data EntryKind : Type 0 where
  no_words : EntryKind
  directive : Octets → List Word → EntryKind
  owned : Word → List Word → EntryKind
  unowned : List Word → EntryKind

-- an unquoted word that begins with `$`
abbrev pub is_directive : Word → Bool
is_directive w = not w.is_quoted && begins_with 36 w.raw

-- the kind of an entry, by whether it begins with a blank, and by its words
abbrev pub kind_by_words : Bool → List Word → EntryKind
kind_by_words blank [] = no_words
kind_by_words blank (w ∷ ws) =
    if blank then unowned (w ∷ ws)
    else if is_directive w then directive (text_in_lower_case w.raw) ws
    else owned w ws

-- An entry without words gives no record. Otherwise, an entry that begins with a blank is a record
-- that states no owner; an entry whose first word is unquoted and begins with `$` is a directive;
-- and the first word of any other entry is the owner of a record.
abbrev pub kind_of : Entry → EntryKind
kind_of e = kind_by_words (begins_blank e.tokens) (entry_words e)

-- RFC 1035 5.1: after the owner come a TTL and a class, in either order and both optional; then
-- the type and the data
pub record Fields : Type 0 where
  pub ttl : Option Word
  pub class : Option Word
  pub others : List Word

-- an unquoted word that begins with a digit
abbrev pub is_ttl_word : Word → Bool
is_ttl_word w = not w.is_quoted && list_any is_ascii_digit (take 1 w.raw)

-- the word is this text, in any case
abbrev pub is_word : Octets → Octets → Bool
is_word text raw = octets_equal (text_in_lower_case raw) text

-- RFC 1035 3.2.4, RFC 3597 section 5: an unquoted word that names a class, or begins with `CLASS`,
-- in any case
abbrev pub is_class_word : Word → Bool
is_class_word w =
    not w.is_quoted
    && (list_any (λ c. is_word c w.raw) (codes "in" ∷ codes "ch" ∷ codes "cs" ∷ codes "hs" ∷ [])
    || is_word (codes "class") (take 5 w.raw))

-- the word names the class IN, by its mnemonic or as `CLASS1`
abbrev pub is_class_in : Word → Bool
is_class_in w = is_word (codes "in") w.raw || is_word (codes "class1") w.raw

-- the fields of a record whose TTL comes first, from the words after it
abbrev pub class_after : Word → List Word → Fields
class_after ttl [] = record { ttl = Some ttl; class = None; others = [] }
class_after ttl (w ∷ ws) =
    if is_class_word w then record { ttl = Some ttl; class = Some w; others = ws }
    else record { ttl = Some ttl; class = None; others = w ∷ ws }

-- the fields of a record whose class comes first, from the words after it
abbrev pub ttl_after : Word → List Word → Fields
ttl_after class [] = record { ttl = None; class = Some class; others = [] }
ttl_after class (w ∷ ws) =
    if is_ttl_word w then record { ttl = Some w; class = Some class; others = ws }
    else record { ttl = None; class = Some class; others = w ∷ ws }

-- the fields of a record, from the words after its owner
abbrev pub fields : List Word → Fields
fields [] = record { ttl = None; class = None; others = [] }
fields (w ∷ ws) =
    if is_ttl_word w then class_after w ws
    else if is_class_word w then ttl_after w ws
    else record { ttl = None; class = None; others = w ∷ ws }

-- for a directive with this name: its first argument, if it has one
abbrev pub directive_word : Octets → EntryKind → Option Word
directive_word name no_words = None
directive_word name (directive n []) = None
directive_word name (directive n (w ∷ ws)) = if octets_equal n name then Some w else None
directive_word name (owned w ws) = None
directive_word name (unowned ws) = None

-- the word that states an owner
abbrev pub owner_word : EntryKind → Option Word
owner_word no_words = None
owner_word (directive n ws) = None
owner_word (owned w ws) = Some w
owner_word (unowned ws) = None

-- the word that states a TTL
abbrev pub ttl_word : EntryKind → Option Word
ttl_word no_words = None
ttl_word (directive n ws) = None
ttl_word (owned w ws) = (fields ws).ttl
ttl_word (unowned ws) = (fields ws).ttl

-- the entry is a record
abbrev pub is_record : Entry → Bool
is_record e = elim (kind_of e) [
  | no_words ↦ false
  | directive n ws ↦ false
  | owned w ws ↦ true
  | unowned ws ↦ true
]

-- the word that `word_of` gives for the nearest entry for which it gives one
abbrev pub nearest : (EntryKind → Option Word) → List Entry → Option Word
nearest word_of [] = None
nearest word_of (e ∷ earlier) = option_or (word_of (kind_of e)) (nearest word_of earlier)

-- RFC 1035 5.1: n is the origin in force after the entries: the argument of the last `$ORIGIN`,
-- relative to the origin in force before that entry; without a `$ORIGIN`, the origin of the file
abbrev pub OriginIs : DomainName → List Entry → DomainName → Type 0
OriginIs o [] n = n ≡ o
OriginIs o (e ∷ earlier) n =
    MatchOption (directive_word (codes "$origin") (kind_of e)) (OriginIs o earlier n)
    (λ w. (m : DomainName) × OriginIs o earlier m × SpellsName m w.raw n)

-- the unquoted word spells the name, relative to the origin in force
abbrev pub NameIs : DomainName → List Entry → Word → DomainName → Type 0
NameIs o earlier w n =
    IsTrue (not w.is_quoted) × ((m : DomainName) × OriginIs o earlier m × SpellsName m w.raw n)

-- RFC 1035 5.1: a record that states no owner has the owner of the nearest earlier record that
-- states one
abbrev pub OwnerBefore : DomainName → List Entry → DomainName → Type 0
OwnerBefore o [] n = ⊥
OwnerBefore o (e ∷ earlier) n =
    MatchOption (owner_word (kind_of e)) (OwnerBefore o earlier n) (λ w. NameIs o earlier w n)

-- a TTL in decimal, without leading zeros (in this product), at most 2^31 - 1
abbrev pub TtlSays : Word → ℕ → Type 0
TtlSays w n = IsTrue (not w.is_quoted) × (w.raw ≡ decimal n) × (n ≤ most_ttl)

-- RFC 2308 section 4: a record that states no TTL has the TTL of the last `$TTL` before it;
-- without one (RFC 1035 5.1), the last TTL that an earlier record states
abbrev pub ttl_in_force : List Entry → Option Word → Option Word
ttl_in_force earlier stated =
    option_or stated
    (option_or (nearest (directive_word (codes "$ttl")) earlier) (nearest ttl_word earlier))

-- the TTL in force is n
abbrev pub TtlIs : List Entry → Option Word → ℕ → Type 0
TtlIs earlier stated n = MatchOption (ttl_in_force earlier stated) ⊥ (λ w. TtlSays w n)

-- All types except those that no zone contains: 0, and the query types and meta-types (RFC 6895
-- 3.1), 128 to 255 and OPT; and, in this product, DNAME, DS, RRSIG, NSEC, DNSKEY, NSEC3 and
-- NSEC3PARAM.
abbrev pub is_zone_type : ℕ → Bool
is_zone_type t =
    not (t == 0 || (nat_le 128 t && nat_le t 255)
    || list_any (λ u. t == u) (39 ∷ 41 ∷ 43 ∷ 46 ∷ 47 ∷ 48 ∷ 50 ∷ 51 ∷ []))

-- the first of these words is unquoted and names the type, and a zone may contain records of that
-- type
abbrev pub TypeIs : List Word → ℕ → Type 0
TypeIs [] t = ⊥
TypeIs (w ∷ ws) t = IsTrue (not w.is_quoted) × NamesType w.raw t × IsTrue (is_zone_type t)

-- the words after the type spell the data
abbrev pub DataIs : DomainName → List Entry → List Word → Octets → Type 0
DataIs o earlier ws d =
    (t : ℕ) × TypeIs ws t × ((m : DomainName) × OriginIs o earlier m × Says t (drop 1 ws) m d)

-- The record of an entry: its owner, in lower case (in this product; RFC 1035 2.3.3 asks to keep
-- the case if possible), its TTL, its type and its data.
pub record IsRecord (o : DomainName) (earlier : List Entry) (Owner : DomainName → Type 0)
    (f : Fields) (r : ResourceRecord) : Type 0 where
  pub owner : (n : DomainName) × Owner n × (r.owner ≡ folded n)
  pub ttl : TtlIs earlier f.ttl r.ttl
  pub rtype : TypeIs f.others r.rtype
  pub rdata : DataIs o earlier f.others r.rdata

-- a TTL is stated, and it is invalid
abbrev pub IsNoTtl : Option Word → Type 0
IsNoTtl stated = MatchOption stated ⊥ (λ w. Nothing (TtlSays w))

-- a class other than IN is stated
abbrev pub is_other_class : Option Word → Bool
is_other_class None = false
is_other_class (Some w) = not (is_class_in w)

-- the earlier entries already contain as many records as a text may have
abbrev pub are_too_many : List Entry → Bool
are_too_many earlier = nat_le most_records (length (filter is_record earlier))

-- The faults of a record: `R07`, its owner is invalid, or `R08`, no earlier record states an
-- owner; `R09`, its TTL is invalid; `R10`, its class is not IN; `R11`, its type is missing or
-- invalid; `R12`, no TTL is in force; `R13`, its data is invalid; `R14`, there are too many
-- records.
abbrev pub record_faults : DomainName → List Entry → FileFault → (DomainName → Type 0) → Fields
    → List (FileFault × Type 0)
record_faults o earlier owner_fault Owner f =
    (owner_fault, Nothing Owner)
    ∷ (bad_ttl, IsNoTtl f.ttl)
    ∷ (other_class, IsTrue (is_other_class f.class))
    ∷ (bad_type, Nothing (TypeIs f.others))
    ∷ (no_ttl, IsTrue (is_none (ttl_in_force earlier f.ttl)))
    ∷ (bad_data, Nothing (DataIs o earlier f.others))
    ∷ (too_many_records, IsTrue (are_too_many earlier))
    ∷ []

-- what a record entry means: its first fault, or its record
abbrev pub RecordGives : DomainName → List Entry → FileFault → (DomainName → Type 0) → Fields
    → EntryMeaning → Type 0
RecordGives o earlier owner_fault Owner f =
    Lowest (record_faults o earlier owner_fault Owner f)
    (λ given. (r : ResourceRecord) × IsRecord o earlier Owner f r × (given ≡ gives (r ∷ [])))

-- there is exactly one word, and P holds for it
abbrev pub OneWord : (Word → Type 0) → List Word → Type 0
OneWord P [] = ⊥
OneWord P (w ∷ []) = P w
OneWord P (w ∷ v ∷ ws) = ⊥

-- `R06` if the directive does not have exactly one argument, or P holds for no value of that
-- argument; otherwise, the directive gives no record
abbrev pub DirectiveSays : {A : Type 0} → (A → Word → Type 0) → List Word → EntryMeaning → Type 0
DirectiveSays {A} P ws =
    Lowest ((directive_words, Nothing (λ (v : A). OneWord (P v) ws)) ∷ [])
    (λ given. given ≡ gives [])

-- RFC 1035 5.1, RFC 2308 section 4: what a directive means: `R05` if it is neither `$ORIGIN` nor
-- `$TTL`
abbrev pub DirectiveGives : DomainName → List Entry → Octets → List Word → EntryMeaning → Type 0
DirectiveGives o earlier name ws given =
    MatchBool (octets_equal name (codes "$origin"))
    (DirectiveSays (λ n w. NameIs o earlier w n) ws given)
    (MatchBool (octets_equal name (codes "$ttl"))
    (DirectiveSays (λ n w. TtlSays w n) ws given)
    (given ≡ faulty unknown_directive))

-- what an entry means by its kind
abbrev pub KindGives : DomainName → List Entry → EntryKind → EntryMeaning → Type 0
KindGives o earlier no_words given = given ≡ gives []
KindGives o earlier (directive name ws) given = DirectiveGives o earlier name ws given
KindGives o earlier (owned w ws) given =
    RecordGives o earlier bad_owner (NameIs o earlier w) (fields ws) given
KindGives o earlier (unowned ws) given =
    RecordGives o earlier no_owner (OwnerBefore o earlier) (fields ws) given

-- what an entry means: its lexical fault if it has one, else what its words mean
abbrev pub EntryGives : DomainName → List Entry → Entry → EntryMeaning → Type 0
EntryGives o earlier e given =
    MatchOption (lexical_fault e) (KindGives o earlier (kind_of e) given)
    (λ fault. given ≡ faulty fault)

-- What a text means: its records in order, or a fault and its line.
pub data Meaning : Type 0 where
  records : List ResourceRecord → Meaning
  fault_at : FileFault → ℕ → Meaning

-- the records of an entry, followed by the records that the later entries mean; or the fault of the
-- later entries
abbrev pub after : List ResourceRecord → Meaning → Meaning
after rs (records more) = records (rs ++ more)
after rs (fault_at fault line) = fault_at fault line

-- the line on which the entry after the entries `earlier` begins, counted from 1
abbrev pub line_after : List Entry → ℕ
line_after earlier = 1 + length (filter is_line_end (flat_map (λ (e : Entry). e.tokens) earlier))

-- what entries mean: the fault of the first faulty entry and its line, or all their records
abbrev pub EntriesMean : DomainName → List Entry → List Entry → Meaning → Type 0
EntriesMean o earlier [] m = m ≡ records []
EntriesMean o earlier (e ∷ es) m =
    (given : EntryMeaning) × EntryGives o earlier e given
    × elim given [
      | faulty fault ↦ m ≡ fault_at fault (line_after earlier)
      | gives rs ↦ (later : Meaning) × EntriesMean o (e ∷ earlier) es later × (m ≡ after rs later)
    ]

-- What a text means as the file of a zone with this origin (RFC 1035 section 5).
abbrev pub Means : DomainName → Octets → Meaning → Type 0
Means o text m = (es : List Entry) × Entries text es × EntriesMean o [] es m
