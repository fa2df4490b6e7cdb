-- What is known of the entries so far, faulty or not, and how an entry changes it.
use Rattle.std.specs.Prelude.{◌≡◌, ◌↔◌, ℕ, ◌+◌, ◌-◌, Bool, if◌then◌else◌, List, [], ◌∷◌, length, codes, MatchOption, Option, Some, None}
use Rattle.std.specs.List.{filter}
use Rattle.std.specs.Option.{option_or}
use Rattle.dns_spec.specs.Names.{DomainName}
use Rattle.dns_spec.specs.NameText.{SpellsName}
use Rattle.dns_spec.specs.DataText.{Word}
use Rattle.dns_spec.specs.ZoneText.{Entry}
use Rattle.dns_spec.specs.Records.{ResourceRecord}
use Rattle.dns_spec.specs.Meaning.{EntryKind, kind_of, OriginIs, TtlSays, nearest, directive_word, ttl_word, is_record, most_records, Nothing}
use Rattle.dns_spec.specs.AllFaults.{LookBack}
use Rattle.dns_master.specs.RecordForm.{LastOwner, SpelledName, SpelledOwner}
use Rattle.dns_master.specs.declared.earlier.Earlier.{Earlier}

-- the TTL that an optional word states; None if there is no word, Some None if the TTL is invalid
abbrev pub SeenTtl : Option Word → Option (Option ℕ) → Type 0
SeenTtl None ttl = ttl ≡ None
SeenTtl (Some w) ttl =
    (v : Option ℕ) × (ttl ≡ Some v) × ((n : ℕ) → (v ≡ Some n) ↔ TtlSays w n)

-- What later entries need of the earlier ones: the current origin, owner and TTLs, and one more
-- than the number of records that may follow.
pub record Inherited (o : DomainName) (earlier : List Entry) (origin : DomainName)
    (owner : Option DomainName) (default_ttl stated_ttl : Option (Option ℕ))
    (records_left : ℕ) : Type 0 where
  pub origin_is : OriginIs o earlier origin
  pub no_other : (n : DomainName) → OriginIs o earlier n → n ≡ origin
  pub owner_is : LastOwner o earlier owner
  pub default_is : SeenTtl (nearest (directive_word (codes "$ttl")) earlier) default_ttl
  pub stated_is : SeenTtl (nearest ttl_word earlier) stated_ttl
  pub left_is : records_left ≡ 1 + most_records - length (filter is_record earlier)

-- the owner that was stated last, if it is valid
abbrev pub owner_of : Earlier → Option DomainName
owner_of k = if k.has_owner then Some k.last.owner else None

-- what is known fits the earlier entries, if `owner` is the owner that was stated last
abbrev pub LooksBackTo : DomainName → List Entry → Option DomainName → Earlier → Type 0
LooksBackTo o earlier owner k =
    Inherited o earlier k.origin owner k.default_ttl k.stated_ttl k.records_left

abbrev pub LooksBack : DomainName → List Entry → Earlier → Type 0
LooksBack o earlier k = LooksBackTo o earlier (owner_of k) k

-- the records that an entry gives: the last record, or none
abbrev pub handed : Bool → ResourceRecord → List ResourceRecord
handed is_record last = if is_record then last ∷ [] else []

-- a record was passed that has the owner stated last, and whose TTL this word states
pub record RecordPassed (old : Earlier) (stated : Option Word) (new : Earlier) : Type 0 where
  pub origin_is : new.origin ≡ old.origin
  pub owner_is : owner_of new ≡ owner_of old
  pub default_is : new.default_ttl ≡ old.default_ttl
  pub stated_is : (w : Option Word) → SeenTtl w old.stated_ttl
      → SeenTtl (option_or stated w) new.stated_ttl
  pub left_is : new.records_left ≡ old.records_left - 1

-- an entry is passed: later entries look back on the entries `later`, which `k` fits
pub record Passed (o : DomainName) (earlier : List Entry) (e : Entry) (k : Earlier) : Type 0 where
  pub later : List Entry
  pub back : LookBack o e earlier later
  pub known : LooksBack o later k

-- an entry of this kind is passed, whatever entries are known
abbrev pub Passes : Earlier → EntryKind → Earlier → Type 0
Passes old kind new =
    (o : DomainName) (earlier : List Entry) (e : Entry) → LooksBack o earlier old
    → kind_of e ≡ kind → Passed o earlier e new

-- the origin in force after an entry of this kind
abbrev pub OriginAfter : DomainName → List Entry → EntryKind → DomainName → Type 0
OriginAfter o earlier kind n =
    MatchOption (directive_word (codes "$origin") kind) (OriginIs o earlier n)
    (λ w. (m : DomainName) × OriginIs o earlier m × SpellsName m w.raw n)

-- the owner that a word states, in lower case
abbrev pub StatedOwner : DomainName → Word → Option DomainName → Type 0
StatedOwner origin w owner =
    MatchOption owner (Nothing (SpelledName origin w)) (SpelledOwner origin w)
