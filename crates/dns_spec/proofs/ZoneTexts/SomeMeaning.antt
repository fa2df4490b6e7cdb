-- Every text has a meaning.
--
-- The proof is indirect: it shows that a text can't be without a meaning, and gives no meaning.
use Rattle.dns_spec.proofs.Common.{arith, rules, ◌≡◌, ℕ, ◌⊎◌, inl, inr, Bool, true, false, List, [], ◌∷◌, Option, Some, None, refl, ap, codes, IsTrue, take, MatchOption, MatchBool, is_none, option_or, false≢true, none-some, Octets, DomainName, folded, octets_equal, Word, ResourceRecord, FileFault, unknown_directive, directive_words, bad_owner, no_owner, most_octets, Extent, extent_of, Entry, with_end, cut_entries, lexical_fault, EntryMeaning, faulty, gives, Nothing, Lowest, EntryKind, no_words, directive, owned, unowned, kind_of, nearest, directive_word, ttl_word, NameIs, OwnerBefore, TtlSays, ttl_in_force, IsRecord, Fields, fields, IsNoTtl, record_faults, RecordGives, OneWord, DirectiveSays, KindGives, EntryGives, Meaning, records, fault_at, after, line_after, EntriesMean, Means, OctetsMean}
use Rattle.dns_spec.proofs.ZoneTexts.TextTokens.{has_tokens, tokens_cut}
use Rattle.dns_spec.proofs.General.Truths.{Sure, sure, and_so, either_way}

-- if not `Nothing P`, a value for which P holds exists (indirectly, see `Sure`)
some_there : {A : Type 0} {P : A → Type 0} → (Nothing P → ⊥) → Sure ((v : A) × P v)
some_there not_none none = not_none (λ v p. none (v, p))

-- none of the faults has a condition that holds
abbrev NoneHolds : List (FileFault × Type 0) → Type 0
NoneHolds [] = Unit {0}
NoneHolds ((fault, Condition) ∷ higher) = (Condition → ⊥) × NoneHolds higher

lowest_sure : (faults : List (FileFault × Type 0)) (Faultless : EntryMeaning → Type 0)
    → (NoneHolds faults → Sure ((given : EntryMeaning) × Faultless given))
    → Sure ((given : EntryMeaning) × Lowest faults Faultless given)
lowest_sure [] Faultless given = given tt
lowest_sure ((fault, Condition) ∷ higher) Faultless given =
    and_so (either_way Condition)
    (by_cases (λ none. lowest_sure higher Faultless (λ others. given (none, others))))
  where
    by_cases : ((Condition → ⊥) → Sure ((given : EntryMeaning) × Lowest higher Faultless given))
        → Condition ⊎ (Condition → ⊥)
        → Sure ((given : EntryMeaning) × Lowest ((fault, Condition) ∷ higher) Faultless given)
    by_cases later (inl holds) = sure (faulty fault, inl (holds, refl))
    by_cases later (inr none) = and_so (later none) (λ found. sure (found.0, inr (none, found.1)))

says_sure : {A : Type 0} (P : A → Word → Type 0) (ws : List Word)
    → Sure ((given : EntryMeaning) × DirectiveSays P ws given)
says_sure {A} P ws =
    lowest_sure ((directive_words, Nothing (λ (v : A). OneWord (P v) ws)) ∷ [])
    (λ given. given ≡ gives []) (λ none. sure (gives [], refl))

-- the word states a TTL
abbrev SaysTtl : Word → Type 0
SaysTtl w = Sure ((n : ℕ) × TtlSays w n)

-- the word, if there is one, states a TTL
abbrev EachSays : Option Word → Type 0
EachSays stated = (w : Word) → stated ≡ Some w → SaysTtl w

either_says : (x y : Option Word) → EachSays x → EachSays y → EachSays (option_or x y)
either_says x y h h1 = grind arith

stated_says : (stated : Option Word) → (IsNoTtl stated → ⊥) → EachSays stated
stated_says stated h = grind arith

-- the words that later entries inherit as TTLs from entries without a fault state TTLs
pub record Known (earlier : List Entry) : Type 0 where
  default : EachSays (nearest (directive_word (codes "$ttl")) earlier)
  stated : EachSays (nearest ttl_word earlier)

unfoldable pub is_faulty : EntryMeaning → Bool
is_faulty (faulty fault) = true
is_faulty (gives rs) = false

pub faultless : (rs : List ResourceRecord) (fault : FileFault) → gives rs ≡ faulty fault → ⊥
unfolding is_faulty
faultless rs fault e = false≢true (ap is_faulty e)

module _ (o : DomainName) (earlier : List Entry) where
  -- the words that an entry without a fault states as TTLs
  default_says : (rs : List ResourceRecord) (s : EntryKind)
      → KindGives o earlier s (gives rs) → EachSays (directive_word (codes "$ttl") s)
  default_says rs s h = search rules

  record_says : (rs : List ResourceRecord) (owner_fault : FileFault) (Owner : DomainName → Type 0)
      (f : Fields) → RecordGives o earlier owner_fault Owner f (gives rs) → EachSays f.ttl
  record_says rs owner_fault Owner f (inl (holds, is)) = absurd (faultless rs owner_fault is)
  record_says rs owner_fault Owner f (inr (none, inl (holds, is))) = absurd (faultless rs _ is)
  record_says rs owner_fault Owner f (inr (none, inr (says, others))) = stated_says f.ttl says

  record_ttl_says : (rs : List ResourceRecord) (s : EntryKind)
      → KindGives o earlier s (gives rs) → EachSays (ttl_word s)
  record_ttl_says rs no_words h w e = absurd (none-some w e)
  record_ttl_says rs (directive name ws) h w e = absurd (none-some w e)
  record_ttl_says rs (owned v ws) h w e = search (rules, record_says)
  record_ttl_says rs (unowned ws) h w e = search (rules, record_says)

  pub known_more : (rs : List ResourceRecord) (e : Entry)
      → Known earlier → KindGives o earlier (kind_of e) (gives rs) → Known (e ∷ earlier)
  known_more rs e known h = search (rules, either_says, default_says, record_ttl_says)

  pub sort_given : (rs : List ResourceRecord) (e : Entry)
      → EntryGives o earlier e (gives rs) → KindGives o earlier (kind_of e) (gives rs)
  sort_given rs e = grind (arith, faultless)

  -- a record has a TTL, since one is in force
  ttl_sure : (stated : Option Word) → EachSays stated
      → (IsTrue (is_none stated) → ⊥) → Sure ((n : ℕ) × MatchOption stated ⊥ (λ w. TtlSays w n))
  ttl_sure stated h h1 = grind arith

  record_sure : (owner_fault : FileFault) (Owner : DomainName → Type 0) (f : Fields) → Known earlier
      → Sure ((given : EntryMeaning) × RecordGives o earlier owner_fault Owner f given)
  record_sure owner_fault Owner f known =
      lowest_sure (record_faults o earlier owner_fault Owner f)
      (λ given. (r : ResourceRecord) × IsRecord o earlier Owner f r × (given ≡ gives (r ∷ [])))
      whole
    where
      whole : NoneHolds (record_faults o earlier owner_fault Owner f) → Sure ((given : EntryMeaning)
          × ((r : ResourceRecord) × IsRecord o earlier Owner f r × (given ≡ gives (r ∷ []))))
      whole (owner, (stated, (class, (type, (known_ttl, (rdata, few)))))) =
          and_so (some_there owner) (λ n.
          and_so (ttl_sure (ttl_in_force earlier f.ttl)
          (either_says f.ttl _ (stated_says f.ttl stated)
          (either_says _ _ known.default known.stated)) known_ttl) (λ k.
          and_so (some_there type) (λ t.
          and_so (some_there rdata) (λ d.
          sure (
            gives (record { owner = folded n.0; ttl = k.0; rtype = t.0; rdata = d.0 } ∷ []),
            (
              record { owner = folded n.0; ttl = k.0; rtype = t.0; rdata = d.0 },
              record { owner = (n.0, n.1, refl); ttl = k.1; rtype = t.1; rdata = d.1 },
              refl,
            ),
          )))))

  pub sort_sure : (s : EntryKind)
      → Known earlier → Sure ((given : EntryMeaning) × KindGives o earlier s given)
  sort_sure no_words known = sure (gives [], refl)
  sort_sure (directive name ws) known =
      go (octets_equal name (codes "$origin")) (octets_equal name (codes "$ttl"))
    where
      go : (a b : Bool) → Sure ((given : EntryMeaning)
          × MatchBool a (DirectiveSays (λ n w. NameIs o earlier w n) ws given) (MatchBool b
          (DirectiveSays (λ n w. TtlSays w n) ws given) (given ≡ faulty unknown_directive)))
      go true b = says_sure (λ n w. NameIs o earlier w n) ws
      go false true = says_sure (λ n w. TtlSays w n) ws
      go false false = sure (faulty unknown_directive, refl)
  sort_sure (owned w ws) known = record_sure bad_owner (NameIs o earlier w) (fields ws) known
  sort_sure (unowned ws) known = record_sure no_owner (OwnerBefore o earlier) (fields ws) known

  pub entry_sure : (e : Entry)
      → Known earlier → Sure ((given : EntryMeaning) × EntryGives o earlier e given)
  entry_sure e known = go (lexical_fault e)
    where
      go : (fault : Option FileFault) → Sure ((given : EntryMeaning)
          × MatchOption fault (KindGives o earlier (kind_of e) given) (λ f. given ≡ faulty f))
      go None = sort_sure (kind_of e) known
      go (Some f) = sure (faulty f, refl)

entries_sure : (o : DomainName) (earlier es : List Entry)
    → Known earlier → Sure ((m : Meaning) × EntriesMean o earlier es m)
entries_sure o earlier [] known = sure (records [], refl)
entries_sure o earlier (e ∷ es) known =
    and_so (entry_sure o earlier e known)
    (λ found. by_given found.0 found.1 (λ k. entries_sure o (e ∷ earlier) es k))
  where
    by_given : (given : EntryMeaning) → EntryGives o earlier e given
        → (Known (e ∷ earlier) → Sure ((m : Meaning) × EntriesMean o (e ∷ earlier) es m))
        → Sure ((m : Meaning) × EntriesMean o earlier (e ∷ es) m)
    by_given (faulty f) given later =
        sure (fault_at f (line_after earlier), (faulty f, given, refl))
    by_given (gives rs) given later =
        and_so (later (known_more o earlier rs e known (sort_given o earlier rs e given)))
        (λ more. sure (after rs more.0, (gives rs, given, (more.0, more.1, refl))))

pub nothing_known : Known []
nothing_known = grind (arith, none-some)

octets_sure : (o : DomainName) (extent : Extent) (octets : Octets)
    → Sure ((m : Meaning) × OctetsMean o [] extent octets m)
octets_sure o extent octets =
    let h = has_tokens octets in
    let es = with_end extent h.rest (cut_entries false h.tokens) in
    let are = tokens_cut extent octets h.tokens h.rest h.spelled h.at_end in
    and_so (entries_sure o [] es nothing_known) (λ found. sure (found.0, (es, are, found.1)))

pub no_text_without_meaning : (o : DomainName) (text : Octets) → Nothing (Means o text) → ⊥
no_text_without_meaning o text none =
    octets_sure o (extent_of text) (take most_octets text) (λ found. none found.0 found.1)
