-- What an entry without a lexical fault gives, or why it is faulty, by what is known of the entries
-- before it.
use Rattle.std.specs.Prelude.{⊤, ◌≡◌, ◌≢◌, ◌⊎◌, ℕ, ◌+◌, ◌-◌, Bool, List, [], ◌∷◌, length, Option, None, Some, IsTrue, codes, if◌then◌else◌}
use Rattle.std.specs.Bool.{MatchBool}
use Rattle.dns_spec.specs.Names.{Octets, DomainName}
use Rattle.dns_spec.specs.DataText.{Word}
use Rattle.dns_spec.specs.DataFaults.{DataFaultIs}
use Rattle.dns_spec.specs.ZoneText.{Entry}
use Rattle.dns_spec.specs.Records.{ResourceRecord}
use Rattle.dns_spec.specs.FileFaults.{FileFault, bad_ttl, other_class, bad_type, no_ttl, bad_data, bad_owner, no_owner, too_many_records}
use Rattle.dns_spec.specs.Meaning.{Nothing, EntryKind, EntryMeaning, gives, faulty, KindGives, RecordGives, NameIs, TtlSays, OwnerBefore, Fields, fields, IsNoTtl, is_other_class, is_ttl_word, is_class_word}
use Rattle.dns_spec.specs.AllFaults.{FaultyWord, NumberIs, ForData, FaultyData}
use Rattle.dns_master.specs.Codes.{fault_of}
use Rattle.dns_master.specs.EarlierForm.{LooksBack, LooksBackTo, OriginAfter}
use Rattle.dns_master.specs.declared.earlier.Earlier.{Earlier}
use Rattle.dns_master.specs.declared.earlier.Blame.{Blame}
use Rattle.dns_master.specs.declared.earlier.RecordFault.{RecordFault}
use Rattle.dns_master.specs.declared.read_fault.ReadCode.TheVariants.{NoMemory, BadData}
use Rattle.dns_rdata.specs.RdataFault as rdata
use Rattle.dns_rdata.specs.declared.rdata_fault.RdataFault.{RdataFault}
use Rattle.dns_rdata.specs.declared.rdata_fault.RdataFault.TheVariants.{NoMemory as Refused}

-- the number of words before the one at fault, unless the fault is that of the whole entry
abbrev pub BlamedWord : DomainName → List Entry → EntryKind → FileFault → ℕ → Type 0
BlamedWord o earlier s no_owner i = ⊤
BlamedWord o earlier s too_many_records i = ⊤
BlamedWord o earlier s fault i = FaultyWord o earlier s fault i

-- an entry of this kind has this fault
pub record Blamed (o : DomainName) (earlier : List Entry) (s : EntryKind) (b : Blame) : Type 0 where
  pub given : KindGives o earlier s (faulty (fault_of b.code))
  pub number : NumberIs o earlier s (fault_of b.code) b.number
  pub word : BlamedWord o earlier s (fault_of b.code) b.words

-- An entry of this kind has this fault, whatever entries are known; nothing is claimed if
-- allocation failed.
abbrev pub Blames : Earlier → EntryKind → Blame → Type 0
Blames k s b =
    b.code ≢ NoMemory → (o : DomainName) (earlier : List Entry) → LooksBack o earlier k
    → Blamed o earlier s b

-- an entry of this kind has no fault, and gives these records
pub record KindOwn (o : DomainName) (earlier : List Entry) (s : EntryKind)
    (rs : List ResourceRecord) : Type 0 where
  pub given : KindGives o earlier s (gives rs) ⊎ (Nothing (KindGives o earlier s) × (rs ≡ []))
  pub origin : Nothing (OriginAfter o earlier s) → ⊥

abbrev pub GivesKind : Earlier → EntryKind → List ResourceRecord → Type 0
GivesKind k s rs =
    (o : DomainName) (earlier : List Entry) → LooksBack o earlier k → KindOwn o earlier s rs

-- the name of a directive, in lower case
abbrev pub directive_name : Bool → Octets
directive_name is_origin = if is_origin then codes "$origin" else codes "$ttl"

-- P holds for a value if `valid` is true, and else for none
abbrev pub ForSomeIf : {A : Type 0} → Bool → (A → Type 0) → Type 0
ForSomeIf {A} valid P = MatchBool valid ((v : A) × P v) (Nothing P)

-- whether the word is a valid first argument of a directive, whatever entries are known
abbrev pub ArgumentIs : Earlier → Bool → Word → Bool → Type 0
ArgumentIs k is_origin w valid =
    (o : DomainName) (earlier : List Entry) → LooksBack o earlier k
    → MatchBool is_origin (ForSomeIf valid (NameIs o earlier w)) (ForSomeIf valid (TtlSays w))

-- what a record with this owner and these fields gives
abbrev pub OwnedGives : DomainName → List Entry → DomainName → Fields → EntryMeaning → Type 0
OwnedGives o earlier owner f given = RecordGives o earlier no_owner (λ n. n ≡ owner) f given

-- a record with these fields gives nothing, whatever its owner is
pub record NeverGives (o : DomainName) (earlier : List Entry) (f : Fields) : Type 0 where
  pub owned : (w : Word) (n : DomainName) → NameIs o earlier w n
      → Nothing (RecordGives o earlier bad_owner (NameIs o earlier w) f)
  pub unowned : (n : DomainName) → OwnerBefore o earlier n
      → Nothing (RecordGives o earlier no_owner (OwnerBefore o earlier) f)

-- a record with this owner and these fields has no fault, and gives these records
abbrev pub FieldsGive : DomainName → List Entry → DomainName → Fields → List ResourceRecord → Type 0
FieldsGive o earlier owner f rs =
    OwnedGives o earlier owner f (gives rs) ⊎ (NeverGives o earlier f × (rs ≡ []))

-- the same, whatever entries are known
abbrev pub FieldsOwn : Earlier → DomainName → Fields → List ResourceRecord → Type 0
FieldsOwn k owner f rs =
    (o : DomainName) (earlier : List Entry) (stated : Option DomainName)
    → LooksBackTo o earlier stated k → FieldsGive o earlier owner f rs

-- the number of a fault of fields; `n` words from the type on precede the one at fault in data
abbrev pub FieldsDetail : DomainName → List Entry → Fields → FileFault → Option ℕ → ℕ → Type 0
FieldsDetail o earlier f bad_ttl number n = (number ≡ None) × IsNoTtl f.ttl
FieldsDetail o earlier f other_class number n = (number ≡ None) × IsTrue (is_other_class f.class)
FieldsDetail o earlier f bad_type number n = number ≡ None
FieldsDetail o earlier f no_ttl number n = number ≡ None
FieldsDetail o earlier f bad_data number n =
    ForData o earlier f.others (λ t ws m. (k : ℕ) × DataFaultIs t ws m k × (number ≡ Some k))
    × ForData o earlier f.others (λ t ws m. FaultyData t ws m n)
FieldsDetail o earlier f too_many_records number n = number ≡ None
FieldsDetail o earlier f fault number n = ⊥

-- a record with this owner and these fields has this fault
pub record FieldsBlamed (o : DomainName) (earlier : List Entry) (owner : DomainName) (f : Fields)
    (fault : FileFault) (number : Option ℕ) (n : ℕ) : Type 0 where
  pub given : OwnedGives o earlier owner f (faulty fault)
  pub detail : FieldsDetail o earlier f fault number n

abbrev pub FieldsBlames : Earlier → DomainName → Fields → ℕ → RecordFault → Type 0
FieldsBlames k owner f n r =
    r.code ≢ NoMemory → (o : DomainName) (earlier : List Entry) (stated : Option DomainName)
    → LooksBackTo o earlier stated k
    → FieldsBlamed o earlier owner f (fault_of r.code) r.number n

-- 1 if the first word fails the test, else 0
abbrev pub one_unless : (Word → Bool) → List Word → ℕ
one_unless test [] = 0
one_unless test (w ∷ ws) = if test w then 0 else 1

-- the number of words before the one at fault, of the words after an owner; `n` words from the
-- type on precede the one at fault in data
abbrev pub words_to : FileFault → List Word → ℕ → ℕ
words_to bad_ttl ws n = one_unless is_ttl_word ws
words_to other_class ws n = one_unless is_class_word ws
words_to bad_data ws n = (length ws - length (fields ws).others) + n
words_to fault ws n = length ws - length (fields ws).others

-- a record with this owner and these words, which follow `before` words of the entry, has this
-- fault
abbrev pub RecordBlames : Earlier → DomainName → ℕ → List Word → Blame → Type 0
RecordBlames k owner before ws b =
    b.code ≢ NoMemory → (o : DomainName) (earlier : List Entry) (stated : Option DomainName)
    → LooksBackTo o earlier stated k
    → (n : ℕ) × FieldsBlamed o earlier owner (fields ws) (fault_of b.code) b.number n
    × (b.words ≡ before + words_to (fault_of b.code) ws n)

-- data has this fault
pub record DataFaulty (fault : RdataFault) (r : RecordFault) : Type 0 where
  pub code : r.code ≡ BadData
  pub other : fault ≢ Refused
  pub number : r.number ≡ Some (rdata.fault_code fault)

-- the fault of a record whose data has this fault
abbrev pub ForDataFault : RdataFault → RecordFault → Type 0
ForDataFault fault r = (r.code ≡ NoMemory) ⊎ DataFaulty fault r
