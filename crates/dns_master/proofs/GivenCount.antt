-- A text gives at most 100,000 records, whether or not it has faults.
use Rattle.dns_master.proofs.Common.{◌≡◌, ℕ, ◌+◌, ◌-◌, ◌≤◌, Bool, true, false, cond, List, [], ◌∷◌, length, filter, refl, sym, ap, ◌∙◌, subst, inl, inr, arith, Option, Some, None, IsTrue, Octets, DomainName, ResourceRecord, Means, records, Word, Entry, FileFault, EntryMeaning, faulty, gives, EntryKind, no_words, directive, owned, unowned, kind_of, is_record, are_too_many, Fields, RecordGives, KindGives, MatchOption}
use Rattle.dns_master.proofs.Common.{◌++◌, take, drop, Lowest, IsRecord}
use Rattle.dns_spec.specs.Meaning.{record_faults}
use Rattle.dns_spec.specs.EntryPlaces.{placed_entries}
use Rattle.dns_spec.proofs.ZoneTexts.NoFault.{no_fault}
use Rattle.dns_spec.specs.ZoneText.{lexical_fault}
use Rattle.std.proofs.Common.{length-append}
use Rattle.std.specs.Bool.{MatchBool}
use Rattle.dns_spec.proofs.ZoneTexts.SomeMeaning.{faultless}
use Rattle.dns_spec.specs.EntryPlaces.{PlacedEntry}
use Rattle.dns_spec.specs.AllFaults.{EntryFault, EntriesGive, GivesOwn, LookBack, is_last}

-- how many more records a text may have after these entries
abbrev records_left : List Entry → ℕ
records_left earlier = 100000 - length (filter is_record earlier)

none_fits : (earlier : List Entry) (e : Entry) → records_left (e ∷ earlier) ≤ records_left earlier
none_fits earlier e = go (is_record e)
  where
    go : (b : Bool) → 100000 - length (cond b (e ∷ filter is_record earlier)
        (filter is_record earlier)) ≤ records_left earlier
    go true = omega arith
    go false = omega arith

one_fits : (earlier : List Entry) (e : Entry) → is_record e ≡ true
    → (IsTrue (are_too_many earlier) → ⊥) → 1 + records_left (e ∷ earlier) ≤ records_left earlier
one_fits earlier e is few = grind arith

own_in : EntryMeaning → List ResourceRecord
own_in (gives rs) = rs
own_in (faulty fault) = []

own_is : (own rs : List ResourceRecord) → gives own ≡ gives rs → own ≡ rs
unfolding own_in
own_is own rs e = ap own_in e

-- what gives records has none of the first faults
lowest_left : (first others : List (FileFault × Type 0)) (Faultless : EntryMeaning → Type 0)
    (own : List ResourceRecord) → Lowest (first ++ others) Faultless (gives own)
    → Lowest others Faultless (gives own)
lowest_left [] others Faultless own h = h
lowest_left ((fault, Condition) ∷ first) others Faultless own (inl (holds, is)) =
    absurd (faultless own fault is)
lowest_left ((fault, Condition) ∷ first) others Faultless own (inr (none, h)) =
    lowest_left first others Faultless own h

module _ (o : DomainName) (earlier : List Entry) (own : List ResourceRecord) where
  -- a record without a fault is one of not too many
  record One : Type 0 where
    one : length own ≡ 1
    few : IsTrue (are_too_many earlier) → ⊥

  abbrev Faultless : (DomainName → Type 0) → Fields → EntryMeaning → Type 0
  Faultless Owner f given =
      (r : ResourceRecord) × IsRecord o earlier Owner f r × (given ≡ gives (r ∷ []))

  record_own : (c : FileFault) (Owner : DomainName → Type 0) (f : Fields)
      → RecordGives o earlier c Owner f (gives own) → One
  record_own c Owner f h =
      let conditions = record_faults o earlier c Owner f in
      elim (lowest_left (take 6 conditions) (drop 6 conditions) (Faultless Owner f) own h) [
        | inl many ↦ absurd (faultless own _ many.1)
        | inr few ↦
            record { one = ap length (own_is own (few.1.0 ∷ []) few.1.2); few = few.0 }
      ]

  directive_own : (name : List ℕ) (ws : List Word)
      → KindGives o earlier (directive name ws) (gives own) → own ≡ []
  directive_own name ws h = grind (arith, faultless, own_is)

  module _ (e : Entry) where
    abbrev Fits : Type 0
    Fits = length own + records_left (e ∷ earlier) ≤ records_left earlier

    nothing_fits : own ≡ [] → Fits
    nothing_fits is =
        let none = none_fits earlier e in
        let size = ap length is in
        omega (arith, none, size)

    single_fits : is_record e ≡ true → One → Fits
    single_fits is h =
        subst (λ n. n + records_left (e ∷ earlier) ≤ records_left earlier) (sym h.one)
        (one_fits earlier e is h.few)

    kind_fits : (s : EntryKind) → kind_of e ≡ s → KindGives o earlier s (gives own) → Fits
    kind_fits no_words is h = nothing_fits (own_is own [] h)
    kind_fits (directive name ws) is h = nothing_fits (directive_own name ws h)
    kind_fits (owned w ws) is h = single_fits (rw (is, is_record) refl) (record_own _ _ _ h)
    kind_fits (unowned ws) is h = single_fits (rw (is, is_record) refl) (record_own _ _ _ h)

    own_fits : GivesOwn o earlier e own → Fits
    own_fits (inr (none, is)) = nothing_fits is
    own_fits (inl given) = by_lexical (lexical_fault e) given
      where
        by_lexical : (l : Option FileFault)
            → MatchOption l (KindGives o earlier (kind_of e) (gives own))
            (λ fault. gives own ≡ faulty fault) → Fits
        by_lexical None h = kind_fits (kind_of e) refl h
        by_lexical (Some fault) h = absurd (faultless own fault h)

back_fits : (o : DomainName) (e : Entry) (earlier now : List Entry) → LookBack o e earlier now
    → records_left now ≤ records_left earlier
back_fits o e earlier now (inl (_, is)) =
    subst (λ l. records_left l ≤ records_left earlier) (sym is) (none_fits earlier e)
back_fits o e earlier now (inr (_, is)) =
    subst (λ l. records_left l ≤ records_left earlier) (sym is) (omega arith)

none_left : (rs : List ResourceRecord) (n : ℕ) → rs ≡ [] → length rs ≤ n
none_left rs n is = subst (λ l. length l ≤ n) (sym is) (omega arith)

fits : (o : DomainName) (earlier : List Entry) (es : List PlacedEntry) (found : List EntryFault)
    (rs : List ResourceRecord) → EntriesGive o earlier es found rs
    → length rs ≤ records_left earlier
fits o earlier [] found rs h = none_left rs (records_left earlier) h.1
fits o earlier (e ∷ es) found rs (inl (f, has, (more, is, tail))) =
    by_last (is_last f.fault) tail (λ now h. fits o now es more rs h)
  where
    by_last : (b : Bool) → MatchBool b ((more ≡ []) × (rs ≡ []))
        ((now : List Entry) × LookBack o e.entry earlier now × EntriesGive o now es more rs)
        → ((now : List Entry) → EntriesGive o now es more rs → length rs ≤ records_left now)
        → length rs ≤ records_left earlier
    by_last true h later = none_left rs (records_left earlier) h.1
    by_last false (now, back, h) later =
        let less = later now h in
        let fewer = back_fits o e.entry earlier now back in
        omega (arith, less, fewer)
fits o earlier (e ∷ es) found rs (inr (own, given, (later, is, h))) =
    let less = fits o (e.entry ∷ earlier) es found later h in
    let whole = ap length is ∙ length-append own later in
    let own_less = own_fits o earlier own e.entry given in
    omega (arith, less, whole, own_less)

pub few_given : (o : DomainName) (es : List PlacedEntry) (found : List EntryFault)
    (rs : List ResourceRecord) → EntriesGive o [] es found rs → length rs ≤ 100000
few_given o es found rs h = fits o [] es found rs h

-- a text means at most 100,000 records
pub means-few : (o : DomainName) (text : Octets) (rs : List ResourceRecord)
    → Means o text (records rs) → length rs ≤ 100000
means-few o text rs h = few_given o (placed_entries text) [] rs (no_fault o text rs h)
