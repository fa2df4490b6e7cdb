-- Why octets spell no message: the number of the first fault from the left. 1: the octets end too
-- early. 2: a label begins with the bits 01 or 10. 3: a pointer does not lead to a place after the
-- header and before the run of labels that it ends. 4: a name has more than 255 octets. 5: data has
-- not the form of its type. 6: octets follow the last record.
use Rattle.std.specs.Prelude.{◌≡◌, ℕ, zero, suc, ◌+◌, ◌<◌, ◌≤◌, ◌&&◌, List, [], ◌∷◌, ◌++◌, length, take, drop, nat_lt, nat_le, ◌==◌, slice_get, if◌then◌else◌, true, false, MatchOption}
use Rattle.std.specs.Prelude.{Option, None, Some}
use Rattle.std.specs.Bool.{MatchBool}
use Rattle.dns_spec.specs.Names.{Octets, DomainName, is_name}
use Rattle.dns_spec.specs.Data.{Field, domain}
use Rattle.dns_spec.specs.NamesInMessages.{pointer_place}
use Rattle.dns_spec.specs.ComputedNames.{name_at}
use Rattle.dns_spec.specs.Reading.{field16, data_fields, field_at, several, message_question_at, message_record_at}

-- RFC 1035 4.1.4: the fault at place i of a run of labels that began at place s, by the octet there
-- and the next one; 0 if there is none
abbrev pub pointer_fault : ℕ → ℕ → Option ℕ → ℕ
pointer_fault s o None = 1
pointer_fault s o (Some o') =
    if nat_le 12 (pointer_place o o') && nat_lt (pointer_place o o') s then 0 else 3

abbrev pub step_fault : Octets → ℕ → ℕ → Option ℕ → ℕ
step_fault b s i None = 1
step_fault b s i (Some o) =
    if o == 0 then 0
    else if nat_lt o 64 then (if nat_le (i + 1 + o) (length b) then 0 else 1)
    else if nat_lt o 192 then 2
    else pointer_fault s o (slice_get b (i + 1))

-- The fault f of a name from place i on, after the labels n, in a run of labels that began at place
-- s.
pub data RunFault (b : Octets) : DomainName → ℕ → ℕ → ℕ → Type 0 where
  stopped : {n : DomainName} {s : ℕ} (i f : ℕ)
      → step_fault b s i (slice_get b i) ≡ f → 0 < f → RunFault b n s i f
  too_long : {n : DomainName} {s : ℕ} (i k : ℕ) (l : Octets)
      → slice_get b i ≡ Some k → 0 < k → k < 64 → i + 1 + k ≤ length b → l ≡ take k (drop (i + 1) b)
      → is_name (n ++ l ∷ []) ≡ false → RunFault b n s i 4
  labelled : {n : DomainName} {s : ℕ} (i k : ℕ) (l : Octets) (f : ℕ)
      → slice_get b i ≡ Some k → 0 < k → k < 64 → i + 1 + k ≤ length b → l ≡ take k (drop (i + 1) b)
      → is_name (n ++ l ∷ []) ≡ true → RunFault b (n ++ l ∷ []) s (i + 1 + k) f
      → RunFault b n s i f
  pointed : {n : DomainName} {s : ℕ} (i o o' p f : ℕ)
      → slice_get b i ≡ Some o → 192 ≤ o → slice_get b (i + 1) ≡ Some o' → p ≡ pointer_place o o'
      → 12 ≤ p → p < s → RunFault b n p p f → RunFault b n s i f

-- the fault of the name at place i
abbrev pub NameFault : Octets → ℕ → ℕ → Type 0
NameFault b i f = RunFault b [] i i f

-- the fault of the question at place i: of its name, or octets are missing after it
abbrev pub QuestionFault : Octets → ℕ → ℕ → Type 0
QuestionFault b i f = MatchOption (name_at b i) (NameFault b i f) (λ _. f ≡ 1)

-- the fault of a field at place i, and of fields up to place e
abbrev pub FieldFault : Octets → Field → ℕ → ℕ → Type 0
FieldFault b domain i f = MatchOption (name_at b i) (NameFault b i f) (λ _. f ≡ 5)
FieldFault b _ i f = f ≡ 5

abbrev pub FieldsFault : Octets → List Field → ℕ → ℕ → ℕ → Type 0
FieldsFault b [] i e f = f ≡ 5
FieldsFault b (p ∷ ps) i e f =
    MatchOption (field_at b p i e) (FieldFault b p i f) (λ r. FieldsFault b ps r.1 e f)

-- the fault of the record at place i: of its owner; or octets are missing after it; or of its data
abbrev pub RestFault : Octets → ℕ → ℕ → Type 0
RestFault b j f =
    MatchBool (nat_le (j + 10) (length b) && nat_le (j + 10 + field16 b (j + 8)) (length b))
    (FieldsFault b (data_fields (field16 b j) (field16 b (j + 2))) (j + 10)
    (j + 10 + field16 b (j + 8)) f) (f ≡ 1)

abbrev pub RecordFault : Octets → ℕ → ℕ → Type 0
RecordFault b i f = MatchOption (name_at b i) (NameFault b i f) (λ r. RestFault b r.1 f)

-- the fault of k questions or records, of which `read` gives the one at a place
abbrev pub SeveralFault : {X : Type 0} → (ℕ → Option (X × ℕ)) → (ℕ → ℕ → Type 0) → ℕ → ℕ → ℕ
    → Type 0
SeveralFault read Fault zero i f = ⊥
SeveralFault read Fault (suc k) i f =
    MatchOption (read i) (Fault i f) (λ r. SeveralFault read Fault k r.1 f)

-- the fault of k records, or of what follows them
abbrev pub RecordsFault : Octets → ℕ → ℕ → (ℕ → Type 0) → ℕ → Type 0
RecordsFault b k f Rest i =
    MatchOption (several (message_record_at b) k i)
    (SeveralFault (message_record_at b) (RecordFault b) k i f) (λ r. Rest r.1)

-- the fault of a message
abbrev pub MessageFault : Octets → ℕ → Type 0
MessageFault b f =
    MatchBool (nat_le 12 (length b))
    (MatchOption (several (message_question_at b) (field16 b 4) 12)
    (SeveralFault (message_question_at b) (QuestionFault b) (field16 b 4) 12 f)
    (λ r. RecordsFault b (field16 b 6) f
    (RecordsFault b (field16 b 8) f
    (RecordsFault b (field16 b 10) f (λ _. f ≡ 6))) r.1))
    (f ≡ 1)
