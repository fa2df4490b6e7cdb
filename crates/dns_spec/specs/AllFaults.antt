-- All faults of a zone file: each faulty entry, with the place of its fault and the fault's number;
-- and the faults of its zone that no further record removes.
--
-- What an entry inherits is found by looking back over all earlier entries, faulty or not, as in
-- `Meaning`.
use Rattle.std.specs.Prelude.{◌≡◌, ℕ, ◌+◌, ◌-◌, ◌≤◌, ◌⊎◌, Bool, ◌&&◌, not, List, [], ◌∷◌, ◌++◌, length, take, drop, reverse, filter, nat_lt, nat_le, ◌==◌, ◌||◌, IsTrue, if◌then◌else◌, codes, decimal, MatchOption}
use Rattle.std.specs.Prelude.{Option, None, Some}
use Rattle.std.specs.Bool.{MatchBool}
use Rattle.std.specs.Option.{is_some}
use Rattle.std.specs.List.{flat_map, list_all, prefix_len}
use Rattle.dns_spec.specs.Names.{Octets, DomainName, folded, octets_equal}
use Rattle.dns_spec.specs.NameText.{name_fault}
use Rattle.dns_spec.specs.Data.{Field}
use Rattle.dns_spec.specs.DataText.{Word, SaysWord, word_fields_of, is_hex_word, is_unknown_mark, hex_octets}
use Rattle.dns_spec.specs.DataFaults.{DataFaultIs}
use Rattle.dns_spec.specs.FileFaults.{FileFault, fault_code, bad_octet, bad_escape, unended_string, bad_parenthesis, unknown_directive, directive_words, bad_owner, no_owner, bad_ttl, other_class, bad_type, no_ttl, bad_data, too_many_records, too_long}
use Rattle.dns_spec.specs.ZoneText.{Entry}
use Rattle.dns_spec.specs.Records.{ResourceRecord, ZoneContents, zone_of}
use Rattle.dns_spec.specs.Meaning.{faulty, gives, Nothing, EntryKind, no_words, directive, owned, unowned, kind_of, fields, is_ttl_word, is_class_word, OriginIs, NameIs, TtlSays, TypeIs, EntryGives}
use Rattle.dns_spec.specs.EntryPlaces.{Span, empty_place, PlacedEntry, placed_entries}
use Rattle.dns_spec.specs.Checks.{Fault, faults}
use Rattle.dns_spec.specs.Report.{Report, two_digits, fault_report}

-- The words of a record after its owner, and the number of words before them: 1 if the record
-- states an owner.
abbrev pub record_words : EntryKind → List Word
record_words no_words = []
record_words (directive name ws) = []
record_words (owned w ws) = ws
record_words (unowned ws) = ws

abbrev pub words_before : EntryKind → ℕ
words_before (owned w ws) = 1
words_before _ = 0

-- the number of words of a record before its type
abbrev pub before_type : EntryKind → ℕ
before_type s =
    words_before s + (length (record_words s) - length (fields (record_words s)).others)

-- the number of words before the first one that passes the test, counted from the first field
abbrev pub before_such : (Word → Bool) → EntryKind → ℕ
before_such test s = words_before s + prefix_len (λ w. not (test w)) (record_words s)

-- the number of words before the first faulty word of data: one that does not spell its field, or
-- makes the data longer than 65,535 octets; the words before `ws` spell n octets
abbrev pub FaultyField : List Field → DomainName → ℕ → List Word → ℕ → Type 0
FaultyField [] origin n ws i = ⊥
FaultyField (f ∷ fs) origin n [] i = ⊥
FaultyField (f ∷ fs) origin n (w ∷ ws) i =
    (((d : Octets) → SaysWord f origin w d → ⊥) × (i ≡ 0))
    ⊎ ((d : Octets) × SaysWord f origin w d
    × MatchBool (nat_le (n + length d) 65535)
    ((j : ℕ) × FaultyField fs origin (n + length d) ws j × (i ≡ 1 + j)) (i ≡ 0))

-- an unquoted word that states a length of data (RFC 3597 section 5)
abbrev pub StatesLength : Word → ℕ → Type 0
StatesLength w n = IsTrue (not w.is_quoted) × (w.raw ≡ decimal n) × (n ≤ 65535)

-- whole octets in hex digits, without quotation marks
abbrev pub is_hex : Word → Bool
is_hex w = is_hex_word w && is_some (hex_octets w.raw)

-- RFC 3597 section 5: for words after `\#`, the number of words from `\#` on before the faulty one:
-- the first word that states no length, or is not hex; or `\#` itself, if there is no such word
abbrev pub FaultyUnknown : List Word → ℕ → Type 0
FaultyUnknown [] i = i ≡ 0
FaultyUnknown (w ∷ ws) i =
    (Nothing (StatesLength w) × (i ≡ 1))
    ⊎ ((n : ℕ) × StatesLength w n
    × MatchBool (list_all is_hex ws) (i ≡ 0) (i ≡ 2 + prefix_len is_hex ws))

-- The number of words from the type on before the one at fault: the first faulty word of the data;
-- the type if the number of words is wrong; or, for a type without a mnemonic, the word after it,
-- which has to be `\#`.
abbrev pub FaultyTyped : ℕ → DomainName → List Word → ℕ → Type 0
FaultyTyped t origin ws i =
    MatchOption (word_fields_of t (length ws)) (i ≡ 1)
    (λ fs. MatchBool (length fs == length ws)
    ((j : ℕ) × FaultyField fs origin 0 ws j × (i ≡ 1 + j)) (i ≡ 0))

abbrev pub FaultyData : ℕ → List Word → DomainName → ℕ → Type 0
FaultyData t [] origin i = i ≡ 0
FaultyData t (w ∷ ws) origin i =
    MatchBool (is_unknown_mark w)
    ((j : ℕ) × FaultyUnknown ws j × (i ≡ 1 + j)) (FaultyTyped t origin (w ∷ ws) i)

-- P holds for the type, the data and the origin of a record, of which these are the words from the
-- type on
abbrev pub ForData : DomainName → List Entry → List Word
    → (ℕ → List Word → DomainName → Type 0) → Type 0
ForData o earlier ws P =
    (t : ℕ) × TypeIs ws t × ((m : DomainName) × OriginIs o earlier m × P t (drop 1 ws) m)

-- the number of words of a directive before the one at fault: the directive if it has no argument;
-- its first argument if P holds for none of its values; else its second argument
abbrev pub FaultyArgument : {A : Type 0} → (A → Word → Type 0) → List Word → ℕ → Type 0
FaultyArgument P [] i = i ≡ 0
FaultyArgument P (w ∷ ws) i =
    (Nothing (λ v. P v w) × (i ≡ 1)) ⊎ ((Nothing (λ v. P v w) → ⊥) × (i ≡ 2))

abbrev pub FaultyDirective : DomainName → List Entry → EntryKind → ℕ → Type 0
FaultyDirective o earlier (directive name ws) i =
    MatchBool (octets_equal name (codes "$origin"))
    (FaultyArgument (λ n w. NameIs o earlier w n) ws i) (FaultyArgument (λ n w. TtlSays w n) ws i)
FaultyDirective o earlier _ i = ⊥

-- the number of words of an entry before the one at fault
abbrev pub FaultyWord : DomainName → List Entry → EntryKind → FileFault → ℕ → Type 0
FaultyWord o earlier s unknown_directive i = i ≡ 0
FaultyWord o earlier s directive_words i = FaultyDirective o earlier s i
FaultyWord o earlier s bad_owner i = i ≡ 0
FaultyWord o earlier s bad_ttl i = i ≡ before_such is_ttl_word s
FaultyWord o earlier s other_class i = i ≡ before_such is_class_word s
FaultyWord o earlier s bad_type i = i ≡ before_type s
FaultyWord o earlier s no_ttl i = i ≡ before_type s
FaultyWord o earlier s bad_data i =
    ForData o earlier (fields (record_words s)).others
    (λ t ws m. (j : ℕ) × FaultyData t ws m j × (i ≡ before_type s + j))
FaultyWord o earlier s _ i = ⊥

-- the first of these places, if there is one
abbrev pub first_place : List Span → Span → Span
first_place [] otherwise = otherwise
first_place (place ∷ places) otherwise = place

-- the place of the word after i words, or the end of the entry if it has no such word
abbrev pub place_after : ℕ → PlacedEntry → Span
place_after i e = first_place (drop i e.words) (empty_place e.ends)

-- The place of a fault: of `R01` to `R04` and `R15`, the octet at which reading stops; of `R08` and
-- `R14`, the beginning of the entry; of any other fault, the word at fault.
abbrev pub PlaceIs : DomainName → List Entry → PlacedEntry → FileFault → Span → Type 0
PlaceIs o earlier e bad_octet place = place ≡ e.stop bad_octet
PlaceIs o earlier e bad_escape place = place ≡ e.stop bad_escape
PlaceIs o earlier e unended_string place = place ≡ e.stop unended_string
PlaceIs o earlier e bad_parenthesis place = place ≡ e.stop bad_parenthesis
PlaceIs o earlier e too_long place = place ≡ e.stop too_long
PlaceIs o earlier e no_owner place = place ≡ empty_place e.begins
PlaceIs o earlier e too_many_records place = place ≡ empty_place e.begins
PlaceIs o earlier e fault place =
    (i : ℕ) × FaultyWord o earlier (kind_of e.entry) fault i × (place ≡ place_after i e)

-- the number of an owner's fault, if the owner is not quoted
abbrev pub owner_number : EntryKind → Option ℕ
owner_number (owned w ws) = if w.is_quoted then None else Some (name_fault w.raw)
owner_number _ = None

-- The number of a fault: of `R07`, 1 to 4, the fault of the owner's name; of `R13`, 1 to 7, the
-- fault of the data; no other fault has a number.
abbrev pub NumberIs : DomainName → List Entry → EntryKind → FileFault → Option ℕ → Type 0
NumberIs o earlier s bad_owner number = number ≡ owner_number s
NumberIs o earlier s bad_data number =
    ForData o earlier (fields (record_words s)).others
    (λ t ws m. (k : ℕ) × DataFaultIs t ws m k × (number ≡ Some k))
NumberIs o earlier s _ number = number ≡ None

-- A fault of a file: its number, if it has one; its place; and the number of octets before the
-- faulty entry.
pub record EntryFault : Type 0 where
  pub fault : FileFault
  pub number : Option ℕ
  pub place : Span
  pub entry : ℕ

-- the entry has this fault
pub record HasFault (o : DomainName) (earlier : List Entry) (e : PlacedEntry)
    (f : EntryFault) : Type 0 where
  pub given : EntryGives o earlier e.entry (faulty f.fault)
  pub number : NumberIs o earlier (kind_of e.entry) f.fault f.number
  pub place : PlaceIs o earlier e f.fault f.place
  pub entry : f.entry ≡ e.begins

-- the list ends after a fault with this code: `R14` or `R15`
abbrev pub is_last : FileFault → Bool
is_last fault = nat_le 14 (fault_code fault)

-- the records of an entry without a fault; none if it inherits an invalid TTL
abbrev pub GivesOwn : DomainName → List Entry → Entry → List ResourceRecord → Type 0
GivesOwn o earlier e rs =
    EntryGives o earlier e (gives rs) ⊎ (Nothing (EntryGives o earlier e) × (rs ≡ []))

-- Later entries look back on an entry, faulty or not. Only a `$ORIGIN` whose argument is not a name
-- is passed over, so that the origin before it stays in force.
abbrev pub LookBack : DomainName → Entry → List Entry → List Entry → Type 0
LookBack o e earlier now =
    ((Nothing (OriginIs o (e ∷ earlier)) → ⊥) × (now ≡ e ∷ earlier))
    ⊎ (Nothing (OriginIs o (e ∷ earlier)) × (now ≡ earlier))

-- the faults of entries, in order, and the records of the other entries
abbrev pub EntriesGive : DomainName → List Entry → List PlacedEntry
    → List EntryFault → List ResourceRecord → Type 0
EntriesGive o earlier [] found rs = (found ≡ []) × (rs ≡ [])
EntriesGive o earlier (e ∷ es) found rs =
    ((f : EntryFault) × HasFault o earlier e f
    × ((more : List EntryFault) × (found ≡ f ∷ more)
    × MatchBool (is_last f.fault) ((more ≡ []) × (rs ≡ []))
    ((now : List Entry) × LookBack o e.entry earlier now × EntriesGive o now es more rs)))
    ⊎ ((own : List ResourceRecord) × GivesOwn o earlier e.entry own
    × ((later : List ResourceRecord) × (rs ≡ own ++ later)
    × EntriesGive o (e.entry ∷ earlier) es found later))

-- All faults of a text as the file of a zone with this origin, in order, and the records of the
-- entries without a fault.
abbrev pub AllFaults : DomainName → Octets → List EntryFault → List ResourceRecord → Type 0
AllFaults o text found rs = EntriesGive o [] (placed_entries text) found rs

-- no further record removes a fault with this code: all but `Z01`, a missing SOA, `Z04`, missing NS
-- records, and `Z10`, a missing address
abbrev pub is_lasting : ℕ → Bool
is_lasting code = not (code == 1 || code == 4 || code == 10)

-- the faults of the zone that are reported beside these faults of the file: all, if the file has no
-- fault; else those that no further record removes
abbrev pub zone_faults : List EntryFault → ZoneContents → List Fault
zone_faults [] z = faults z
zone_faults (f ∷ found) z = filter (λ (g : Fault). is_lasting g.code) (faults z)

-- a place in a text as its line and column, in octets, both counted from 1
abbrev pub line_at : Octets → ℕ → ℕ
line_at text k = 1 + length (filter (λ o. o == 10) (take k text))

abbrev pub column_at : Octets → ℕ → ℕ
column_at text k = 1 + prefix_len (λ o. not (o == 10)) (reverse (take k text))

abbrev pub position_text : Octets → ℕ → Octets
position_text text k = decimal (line_at text k) ++ codes ":" ++ decimal (column_at text k)

-- a dot and the number of a fault, if it has one
abbrev pub number_text : Option ℕ → Octets
number_text None = []
number_text (Some k) = codes "." ++ decimal k

-- the line for a fault of the file: where it begins and ends, its code and its number
abbrev pub entry_report : Octets → EntryFault → Octets
entry_report text f =
    position_text text f.place.begins ++ codes "-" ++ position_text text f.place.ends
    ++ codes " R" ++ two_digits (fault_code f.fault) ++ number_text f.number ++ codes "\n"

-- The most faults of a file that are listed (in this product).
abbrev pub most_listed : ℕ
most_listed = 1000

-- a line if there are more faults than are listed
abbrev pub more_report : List EntryFault → Octets
more_report found = if nat_lt most_listed (length found) then codes "more\n" else []

-- the report of these faults of a text, and the faults of the zone of its other records
abbrev pub listing : DomainName → Octets → List EntryFault → List ResourceRecord → Octets
listing o text found rs =
    flat_map (entry_report text) (take most_listed found) ++ more_report found
    ++ flat_map fault_report (zone_faults found (zone_of o rs))

-- What `zonefaults` writes about a text as the file of a zone with this origin; it passes if
-- nothing is written.
abbrev pub ListsFaults : DomainName → Octets → Report → Type 0
ListsFaults o text report =
    (found : List EntryFault) × ((rs : List ResourceRecord)
    × AllFaults (folded o) text found rs × (report ≡ record {
      output = listing o text found rs;
      passes = length (listing o text found rs) == 0;
    }))
