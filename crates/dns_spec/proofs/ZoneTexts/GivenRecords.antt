-- An entry with a valid record of class IN gives that record, unless there are too many records.
use Rattle.dns_spec.proofs.Common.{◌≡◌, ℕ, inr, false, List, [], ◌∷◌, Option, refl, sym, ◌∙◌, IsTrue, arith, MatchOption, is_none, false≢true, DomainName, Word, ResourceRecord, Entry, FileFault, too_many_records, EntryMeaning, gives, TtlSays, TtlIs, IsRecord, Fields, IsNoTtl, is_other_class, are_too_many, RecordGives, EntryGives, Meaning, after, EntriesMean, Lowest}

-- if a record has a TTL, no invalid TTL is stated, and a TTL is in force
ttl_stated : (earlier : List Entry) (stated : Option Word) (n : ℕ) → TtlIs earlier stated n
    → IsNoTtl stated → ⊥
ttl_stated earlier stated n h h1 = grind arith

ttl_known : (o : Option Word) (n : ℕ) → MatchOption o ⊥ (λ w. TtlSays w n) → IsTrue (is_none o) → ⊥
ttl_known o n h h1 = grind arith

-- if the record is valid and of class IN, the meaning of its entry depends only on whether there
-- are too many records
pub record_by_count : (o : DomainName) (earlier : List Entry) (code : FileFault)
    (Owner : DomainName → Type 0) (f : Fields) (r : ResourceRecord) (answer : EntryMeaning)
    → IsRecord o earlier Owner f r → is_other_class f.class ≡ false → Lowest
    ((too_many_records, IsTrue (are_too_many earlier)) ∷ []) (λ a. (s : ResourceRecord) × IsRecord
    o earlier Owner f s × (a ≡ gives (s ∷ []))) answer → RecordGives o earlier code Owner f answer
record_by_count o earlier code Owner f r answer h class rest =
    inr (
      λ none. none h.owner.0 h.owner.1,
      inr (
        ttl_stated earlier f.ttl r.ttl h.ttl,
        inr (
          λ e. false≢true (sym class ∙ e),
          inr (
            λ none. none r.rtype h.rtype,
            inr (ttl_known _ r.ttl h.ttl, inr (λ none. none r.rdata h.rdata, rest)),
          ),
        ),
      ),
    )

pub record_given : (o : DomainName) (earlier : List Entry) (code : FileFault)
    (Owner : DomainName → Type 0) (f : Fields) (r : ResourceRecord)
    → IsRecord o earlier Owner f r → is_other_class f.class ≡ false
    → are_too_many earlier ≡ false → RecordGives o earlier code Owner f (gives (r ∷ []))
record_given o earlier code Owner f r h class few =
    record_by_count o earlier code Owner f r (gives (r ∷ [])) h class
    (inr (λ e. false≢true (sym few ∙ e), (r, h, refl)))

-- the meaning of an entry that gives records, and of the entries after it
pub given_then : (o : DomainName) (earlier : List Entry) (e : Entry) (es : List Entry)
    (rs : List ResourceRecord) (later : Meaning) → EntryGives o earlier e (gives rs)
    → EntriesMean o (e ∷ earlier) es later → EntriesMean o earlier (e ∷ es) (after rs later)
given_then o earlier e es rs later given more = (gives rs, given, (later, more, refl))
