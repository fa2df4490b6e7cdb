-- The records that a text means satisfy `IsReadRecord`, have types that zones contain, and are not
-- too many.
use Rattle.dns_spec.proofs.Common.{◌≡◌, ℕ, ◌+◌, ◌<◌, ◌≤◌, Bool, true, false, cond, All, List, [], ◌∷◌, length, drop, filter, Option, Some, None, sym, subst, arith, codes, IsTrue, length-append, rules, All-weaker, ⊤, MatchOption, Octets, DomainName, is_name, folded, SpellsName, valid, lower_case, Word, ResourceRecord, FileFault, IsReadRecord, HasZoneType, Entry, EntryMeaning, faulty, gives, EntryKind, no_words, directive, owned, unowned, kind_of, directive_word, is_record, OriginIs, NameIs, OwnerBefore, most_ttl, TtlIs, TypeIs, DataIs, is_zone_type, Fields, fields, IsRecord, most_records, RecordGives, KindGives, EntryGives, Meaning, records, fault_at, after, EntriesMean, Means, AllByRecursion, All-from_recursion, recursion_from_All}
use Rattle.dns_spec.proofs.ZoneChecks.FaultOrder.{folded_folded}
use Rattle.dns_spec.proofs.Records.RecordOrder.{LowerOwner}
use Rattle.dns_spec.proofs.DomainNames.NameLaws.{is_name-folded}
use Rattle.dns_spec.proofs.DataWords.LoweredData.{lowered_data, lowered-twice}
use Rattle.dns_spec.proofs.ZoneTexts.OneMeaning.{type_once}
use Rattle.dns_spec.proofs.ZoneTexts.ReadOctets.{Octet, SmallName, SmallWord, name_small, folded_small, data_small}
use Rattle.dns_spec.proofs.ZoneTexts.ReadTokens.{SmallEntry, entries_small, words_small}
use Rattle.dns_spec.proofs.General.Elements.{each_any, each_append}

-- r is the record of an entry of this kind
abbrev IsRecordOf : DomainName → List Entry → EntryKind → ResourceRecord → Type 0
IsRecordOf o earlier no_words r = ⊥
IsRecordOf o earlier (directive name ws) r = ⊥
IsRecordOf o earlier (owned w ws) r = IsRecord o earlier (NameIs o earlier w) (fields ws) r
IsRecordOf o earlier (unowned ws) r = IsRecord o earlier (OwnerBefore o earlier) (fields ws) r

-- What holds for the record of each entry, also holds for all records that a text means. `Kept` is
-- a condition that all entries of the text meet.
module _ (o : DomainName) (Kept : Entry → Type 0) (P : ResourceRecord → Type 0)
    (holds : (earlier : List Entry) (e : Entry) → AllByRecursion Kept earlier
    → Kept e → (r : ResourceRecord) → IsRecordOf o earlier (kind_of e) r → P r) where
  abbrev Given : EntryMeaning → Type 0
  Given (faulty code) = ⊤
  Given (gives rs) = AllByRecursion P rs

  abbrev Meant : Meaning → Type 0
  Meant (records rs) = AllByRecursion P rs
  Meant (fault_at code line) = ⊤

  record_given : (earlier : List Entry) (code : FileFault) (Owner : DomainName → Type 0)
      (f : Fields) (answer : EntryMeaning) → ((r : ResourceRecord) → IsRecord o earlier Owner f r
      → P r) → RecordGives o earlier code Owner f answer → Given answer
  record_given earlier code Owner f answer each = search rules

  sort_given : (earlier : List Entry) (s : EntryKind) (answer : EntryMeaning)
      → ((r : ResourceRecord) → IsRecordOf o earlier s r → P r)
      → KindGives o earlier s answer → Given answer
  sort_given earlier no_words answer each h = grind arith
  sort_given earlier (directive name ws) answer each h = grind arith
  sort_given earlier (owned w ws) answer each h = search (rules, record_given)
  sort_given earlier (unowned ws) answer each h = search (rules, record_given)

  entries_meant : (earlier es : List Entry) (m : Meaning)
      → AllByRecursion Kept earlier → AllByRecursion Kept es → EntriesMean o earlier es m → Meant m
  entries_meant earlier [] m keeps kept h = subst Meant (sym h) tt
  entries_meant earlier (e ∷ es) m keeps kept (faulty code, given, h) = subst Meant (sym h) tt
  entries_meant earlier (e ∷ es) m keeps kept (gives rs, given, (later, h, is)) =
      let rest = entries_meant (e ∷ earlier) es later (kept.0, keeps) kept.1 h in
      grind (arith, each_append, sort_given, rest)

  records_hold : (es : List Entry) (rs : List ResourceRecord)
      → AllByRecursion Kept es → EntriesMean o [] es (records rs) → All P rs
  records_hold es rs kept h = All-from_recursion P rs (entries_meant [] es (records rs) tt kept h)

-- owners are in lower case
record_low : (o : DomainName) (earlier : List Entry) (Owner : DomainName → Type 0)
    (f : Fields) (r : ResourceRecord) → IsRecord o earlier Owner f r → LowerOwner r
record_low o earlier Owner f r is = grind (arith, folded_folded)

sort_low : (o : DomainName) (earlier : List Entry) (s : EntryKind) (r : ResourceRecord)
    → IsRecordOf o earlier s r → LowerOwner r
sort_low o earlier no_words r is = absurd is
sort_low o earlier (directive name ws) r is = absurd is
sort_low o earlier (owned w ws) r is = record_low o earlier (NameIs o earlier w) (fields ws) r is
sort_low o earlier (unowned ws) r is = record_low o earlier (OwnerBefore o earlier) (fields ws) r is

pub owners_low : (o : DomainName) (text : Octets) (rs : List ResourceRecord)
    → Means o text (records rs) → All LowerOwner rs
owners_low o text rs (es, cut, h) =
    records_hold o (λ _. Unit {0}) LowerOwner
    (λ earlier e keeps kept r is. sort_low o earlier (kind_of e) r is) es rs (each_any es) h

-- the words of an entry spell octets below 256
abbrev SmallSort : EntryKind → Type 0
SmallSort no_words = Unit {0}
SmallSort (directive name ws) = AllByRecursion SmallWord ws
SmallSort (owned w ws) = SmallWord w × AllByRecursion SmallWord ws
SmallSort (unowned ws) = AllByRecursion SmallWord ws

sort_small : (e : Entry) → SmallEntry e → SmallSort (kind_of e)
sort_small e small = grind (arith, words_small)

abbrev SmallOption : Option Word → Type 0
SmallOption None = Unit {0}
SmallOption (Some w) = SmallWord w

directive_small : (name : Octets) (s : EntryKind)
    → SmallSort s → SmallOption (directive_word name s)
directive_small name s h = grind arith

-- the words after a TTL and a class are words of the record
abbrev SmallFields : Fields → Type 0
SmallFields f = AllByRecursion SmallWord f.others

fields_by : (b : Bool) (f g : Fields) → SmallFields f → SmallFields g → SmallFields (cond b f g)
fields_by b f g h h1 = grind arith

fields_small : (ws : List Word) → AllByRecursion SmallWord ws
    → AllByRecursion SmallWord (fields ws).others
fields_small ws h = grind (arith, fields_by)

drop_small : (ws : List Word) → AllByRecursion SmallWord ws → AllByRecursion SmallWord (drop 1 ws)
drop_small ws h = grind arith

-- names are octets below 256, relative to an origin of such octets
module _ (o : DomainName) (from : SmallName o) where
  origin_small : (earlier : List Entry) (n : DomainName)
      → AllByRecursion SmallEntry earlier → OriginIs o earlier n → SmallName n
  origin_small [] n small h = subst SmallName (sym h) from
  origin_small (e ∷ earlier) n small h =
      go (directive_word (codes "$origin") (kind_of e)) (directive_small (codes "$origin")
      (kind_of e) (sort_small e small.0)) (λ m. origin_small earlier m small.1) h
    where
      go : (w : Option Word) → SmallOption w → ((m : DomainName)
          → OriginIs o earlier m → SmallName m) → MatchOption w (OriginIs o earlier n)
          (λ w. (m : DomainName) × OriginIs o earlier m × SpellsName m w.raw n) → SmallName n
      go None word before h = before n h
      go (Some w) word before (m, is, spelled) = name_small m w.raw n (before m is) word spelled

  name_is_small : (earlier : List Entry) (w : Word) (n : DomainName)
      → AllByRecursion SmallEntry earlier → SmallWord w → NameIs o earlier w n → SmallName n
  name_is_small earlier w n small word (unquoted, (m, is, spelled)) =
      name_small m w.raw n (origin_small earlier m small is) word spelled

  owner_small : (earlier : List Entry) (n : DomainName)
      → AllByRecursion SmallEntry earlier → OwnerBefore o earlier n → SmallName n
  owner_small [] n small h = absurd h
  owner_small (e ∷ earlier) n small h =
      grind (arith, sort_small, SmallName, name_is_small, (owner_small earlier n small.1))

  rdata_small : (earlier : List Entry) (ws : List Word) (d : Octets)
      → AllByRecursion SmallEntry earlier → AllByRecursion SmallWord ws → DataIs o earlier ws d
      → AllByRecursion Octet d
  rdata_small earlier ws d small words (t, type, (m, is, said)) =
      data_small t m (drop 1 ws) d (origin_small earlier m small is) (drop_small ws words) said

-- owners are valid names
owner_is_name : (o : DomainName) (earlier : List Entry) (n : DomainName)
    → OwnerBefore o earlier n → is_name n ≡ true
owner_is_name o [] n h = absurd h
owner_is_name o (e ∷ earlier) n h = grind (arith, (owner_is_name o earlier n))

-- a type that is named is a type of 16 bits that zones contain
type_known : (ws : List Word) (t : ℕ) → TypeIs ws t → (t < 65536) × IsTrue (is_zone_type t)
type_known ws t h = grind arith

-- the data is spelled for the record's own type
said_of_type : (o : DomainName) (earlier : List Entry) (ws : List Word) (t : ℕ) (d : Octets)
    → TypeIs ws t → DataIs o earlier ws d → (valid t d ≡ true) × (lower_case t d ≡ d)
said_of_type o earlier ws t d type (u, type', (m, is, said)) =
    grind (arith, type_once, lowered_data, lowered-twice)

ttl_fits : (earlier : List Entry) (stated : Option Word) (n : ℕ)
    → TtlIs earlier stated n → n ≤ most_ttl
ttl_fits earlier stated n h = grind arith

all_octets : (n : DomainName) → SmallName n → All (All Octet) n
all_octets n small = grind (arith, All-from_recursion, Octet, SmallName, AllByRecursion)

small_name : (n : DomainName) → All (All Octet) n → SmallName n
small_name n all = grind (arith, recursion_from_All, Octet, AllByRecursion, SmallName)

pub folded_octets : (n : DomainName) → All (All Octet) n → All (All Octet) (folded n)
folded_octets n all = all_octets (folded n) (folded_small n (small_name n all))

record_read : (o : DomainName) (earlier : List Entry)
    (Owner : DomainName → Type 0) (f : Fields) (r : ResourceRecord) → SmallName o
    → AllByRecursion SmallEntry earlier
    → ((n : DomainName) → Owner n → (is_name n ≡ true) × SmallName n)
    → SmallFields f → IsRecord o earlier Owner f r → IsReadRecord r × HasZoneType r
record_read o earlier Owner f r from small owners words is =
    let (n, owns, e) = is.owner in
    let known = type_known f.others r.rtype is.rtype in
    let said = said_of_type o earlier f.others r.rtype r.rdata is.rtype is.rdata in (
      record {
        owner_octets = grind (arith, all_octets, folded_small);
        owner = subst (λ m. is_name m ≡ true) (sym e) (is_name-folded n (owners n owns).0);
        lower_owner = record_low o earlier Owner f r is;
        ttl = ttl_fits earlier f.ttl r.ttl is.ttl;
        rtype = known.0;
        rdata_octets = All-from_recursion Octet r.rdata
            (rdata_small o from earlier f.others r.rdata small words is.rdata);
        rdata = said.0;
        lower_data = said.1;
      },
      known.1,
    )

sort_read : (o : DomainName) (earlier : List Entry) (s : EntryKind) (r : ResourceRecord)
    → SmallName o → AllByRecursion SmallEntry earlier
    → SmallSort s → IsRecordOf o earlier s r → IsReadRecord r × HasZoneType r
sort_read o earlier no_words r from small words is = absurd is
sort_read o earlier (directive name ws) r from small words is = absurd is
sort_read o earlier (owned w ws) r from small words is =
    record_read o earlier (NameIs o earlier w) (fields ws) r from small
    (λ n h. (h.1.2.is_name, name_is_small o from earlier w n small words.0 h))
    (fields_small ws words.1) is
sort_read o earlier (unowned ws) r from small words is =
    record_read o earlier (OwnerBefore o earlier) (fields ws) r from small
    (λ n h. (owner_is_name o earlier n h, owner_small o from earlier n small h))
    (fields_small ws words) is

pub records_read : (o : DomainName) (text : Octets) (rs : List ResourceRecord) → All
    (All (λ x. x < 256)) o → Means o text (records rs) → All IsReadRecord rs × All HasZoneType rs
records_read o text rs from (es, cut, h) =
    let all : All (λ r. IsReadRecord r × HasZoneType r) rs =
    records_hold o SmallEntry (λ r. IsReadRecord r × HasZoneType r)
    (λ earlier e keeps kept r is. sort_read o earlier (kind_of e) r
    (small_name o from) keeps (sort_small e kept) is) es rs (entries_small text es cut) h
    in grind (arith, All-weaker)

-- a text does not mean more than 100,000 records
abbrev counted : List Entry → ℕ
counted es = length (filter is_record es)

abbrev states_record : EntryKind → Bool
states_record s = elim s as (λ _. Bool)
    [ no_words ↦ false | directive n ws ↦ false | owned w ws ↦ true | unowned ws ↦ true ]

-- an entry that states a record gives one, if there is room for it; any other entry gives none
abbrev Fits : Bool → ℕ → EntryMeaning → Type 0
Fits is_one count (faulty code) = ⊤
Fits is_one count (gives rs) = (length rs ≡ cond is_one 1 0) × (length rs + count ≤ most_records)

sort_fits : (o : DomainName) (earlier : List Entry) (s : EntryKind) (answer : EntryMeaning)
    → counted earlier ≤ most_records
    → KindGives o earlier s answer → Fits (states_record s) (counted earlier) answer
sort_fits o earlier s answer h h1 = search rules

entry_fits : (o : DomainName) (earlier : List Entry) (e : Entry) (answer : EntryMeaning)
    → counted earlier ≤ most_records
    → EntryGives o earlier e answer → Fits (is_record e) (counted earlier) answer
entry_fits o earlier e answer few = grind (arith, sort_fits)

abbrev Few : ℕ → Meaning → Type 0
Few count (records rs) = length rs + count ≤ most_records
Few count (fault_at code line) = ⊤

after_few : (rs : List ResourceRecord) (later : Meaning) (count more : ℕ)
    → more ≡ length rs + count → Few more later → Few count (after rs later)
after_few rs later count more h h1 = grind (arith, length-append)

entries_few : (o : DomainName) (earlier es : List Entry) (m : Meaning)
    → counted earlier ≤ most_records → EntriesMean o earlier es m → Few (counted earlier) m
entries_few o earlier [] m few h = grind arith
entries_few o earlier (e ∷ es) m few (faulty code, given, h) = grind arith
entries_few o earlier (e ∷ es) m few (gives rs, given, (later, h, is)) =
    let fits = entry_fits o earlier e (gives rs) few given in
    let more : counted (e ∷ earlier) ≡ length rs + counted earlier = grind arith in
    subst (Few (counted earlier)) (sym is)
    (after_few rs later (counted earlier) (counted (e ∷ earlier)) more
    (entries_few o (e ∷ earlier) es later (omega (arith, more, fits.1)) h))

pub records_few : (o : DomainName) (text : Octets) (rs : List ResourceRecord)
    → Means o text (records rs) → length rs ≤ most_records
records_few o text rs (es, cut, h) = grind (arith, entries_few)

pub records_as_read : (o : DomainName) (text : Octets) (rs : List ResourceRecord)
    → All (All (λ x. x < 256)) o → Means o text (records rs)
    → All IsReadRecord rs × All HasZoneType rs × (length rs ≤ most_records)
records_as_read o text rs from means =
    let read = records_read o text rs from means in (read.0, read.1, records_few o text rs means)
