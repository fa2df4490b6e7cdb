-- A text has at most one list of all faults, and one list of records beside it.
use Rattle.dns_spec.proofs.Common.{◌≡◌, ℕ, ◌+◌, inl, inr, true, ◌==◌, nat_le, List, [], ◌∷◌, ◌++◌, length, drop, Option, Some, None, sym, ◌∙◌, ap, ap₂, subst, subst₂, codes, MatchBool, list_all, and_parts, DomainName, Octets, ResourceRecord, Field, Word, is_unknown_mark, word_fields_of, Entry, FileFault, bad_octet, bad_escape, unended_string, bad_parenthesis, unknown_directive, directive_words, bad_owner, no_owner, bad_ttl, other_class, bad_type, no_ttl, bad_data, too_many_records, too_long, no_memory, EntryMeaning, faulty, gives, EntryKind, no_words, directive, owned, unowned, kind_of, EntryGives, DataFaultIs, Span, PlacedEntry, EntryFault, HasFault, NumberIs, PlaceIs, FaultyWord, FaultyDirective, FaultyData, FaultyField, ForData, GivesOwn, LookBack, is_last, EntriesGive, AllFaults, placed_entries, place_after, before_type, record_words, fields, octets_equal, same_Some}
use Rattle.dns_spec.specs.AllFaults.{FaultyArgument, FaultyTyped, FaultyUnknown, is_hex}
use Rattle.dns_spec.specs.FileFaults.{unreadable}
use Rattle.dns_spec.proofs.DataWords.OneData.{is_narrow, form_once, narrow_fields}
use Rattle.dns_spec.proofs.DataWords.OneFault.{both_by_test, both_by_option, fault_once}
use Rattle.dns_spec.proofs.ZoneTexts.OneMeaning.{origin_once, type_once, entry_gives_once}
use Rattle.dns_spec.proofs.ZoneTexts.SomeMeaning.{faultless}

same_value : {A : Type 0} (a b c : A) → a ≡ c → b ≡ c → a ≡ b
same_value a b c e f = e ∙ sym f

field_once : (fs : List Field) (o : DomainName) (n : ℕ) (ws : List Word) (i j : ℕ)
    → list_all is_narrow fs ≡ true → FaultyField fs o n ws i → FaultyField fs o n ws j → i ≡ j
field_once [] o n ws i j narrow h k = absurd h
field_once (f ∷ fs) o n [] i j narrow h k = absurd h
field_once (f ∷ fs) o n (w ∷ ws) i j narrow (inl h) (inl k) = h.1 ∙ sym k.1
field_once (f ∷ fs) o n (w ∷ ws) i j narrow (inl h) (inr k) = absurd (h.0 k.0 k.1)
field_once (f ∷ fs) o n (w ∷ ws) i j narrow (inr h) (inl k) = absurd (k.0 h.0 h.1)
field_once (f ∷ fs) o n (w ∷ ws) i j narrow (inr (x, word, more)) (inr (y, word', more')) =
    let parts = and_parts (is_narrow f) _ narrow in
    let same = form_once f o w.raw y x parts.0 word'.said word.said in
    both_by_test (nat_le (n + length x) 65535)
    (λ _ h k. h.2 ∙ ap (λ m. 1 + m) (field_once fs o (n + length x) ws h.0 k.0 parts.1 h.1 k.1)
    ∙ sym k.2) (λ _ h k. h ∙ sym k) more
    (subst (λ z. MatchBool (nat_le (n + length z) 65535)
    ((m : ℕ) × FaultyField fs o (n + length z) ws m × (j ≡ 1 + m)) (j ≡ 0)) same more')

typed_once : (t : ℕ) (o : DomainName) (ws : List Word) (i j : ℕ)
    → FaultyTyped t o ws i → FaultyTyped t o ws j → i ≡ j
typed_once t o ws i j = both_by_option (word_fields_of t (length ws)) (same_value i j 1)
    (λ fs is. both_by_test (length fs == length ws)
    (λ _ h k. h.2 ∙ ap (λ m. 1 + m)
    (field_once fs o 0 ws h.0 k.0 (narrow_fields t (length ws) fs is) h.1 k.1) ∙ sym k.2)
    (λ _. same_value i j 0))

unknown_once : (ws : List Word) (i j : ℕ) → FaultyUnknown ws i → FaultyUnknown ws j → i ≡ j
unknown_once [] i j h k = h ∙ sym k
unknown_once (w ∷ ws) i j (inl h) (inl k) = h.1 ∙ sym k.1
unknown_once (w ∷ ws) i j (inl h) (inr k) = absurd (h.0 k.0 k.1)
unknown_once (w ∷ ws) i j (inr h) (inl k) = absurd (k.0 h.0 h.1)
unknown_once (w ∷ ws) i j (inr h) (inr k) = both_by_test (list_all is_hex ws)
    (λ _. same_value i j 0) (λ _ x y. x ∙ sym y) h.2 k.2

data_once : (t : ℕ) (ws : List Word) (o : DomainName) (i j : ℕ)
    → FaultyData t ws o i → FaultyData t ws o j → i ≡ j
data_once t [] o i j = same_value i j 0
data_once t (w ∷ ws) o i j = both_by_test (is_unknown_mark w)
    (λ _ h k. h.2 ∙ ap (λ m. 1 + m) (unknown_once ws h.0 k.0 h.1 k.1) ∙ sym k.2)
    (λ _. typed_once t o (w ∷ ws) i j)

-- P and Q hold for the same type, data and origin
for_both : {A : Type 0} (o : DomainName) (earlier : List Entry) (ws : List Word)
    (P Q : ℕ → List Word → DomainName → Type 0)
    → ((t : ℕ) (m : DomainName) → P t (drop 1 ws) m → Q t (drop 1 ws) m → A)
    → ForData o earlier ws P → ForData o earlier ws Q → A
for_both o earlier ws P Q both (t, is_t, (m, is_m, p)) (u, is_u, (n, is_n, q)) =
    both t m p (subst₂ (λ v k. Q v (drop 1 ws) k) (type_once ws u t is_u is_t)
    (origin_once o earlier n m is_n is_m) q)

argument_once : {A : Type 0} (P : A → Word → Type 0) (ws : List Word) (i j : ℕ)
    → FaultyArgument P ws i → FaultyArgument P ws j → i ≡ j
argument_once P [] i j h k = h ∙ sym k
argument_once P (w ∷ ws) i j (inl h) (inl k) = h.1 ∙ sym k.1
argument_once P (w ∷ ws) i j (inl h) (inr k) = absurd (k.0 h.0)
argument_once P (w ∷ ws) i j (inr h) (inl k) = absurd (h.0 k.0)
argument_once P (w ∷ ws) i j (inr h) (inr k) = h.1 ∙ sym k.1

directive_once : (o : DomainName) (earlier : List Entry) (s : EntryKind) (i j : ℕ)
    → FaultyDirective o earlier s i → FaultyDirective o earlier s j → i ≡ j
directive_once o earlier no_words i j h k = absurd h
directive_once o earlier (owned w ws) i j h k = absurd h
directive_once o earlier (unowned ws) i j h k = absurd h
directive_once o earlier (directive name ws) i j h k =
    both_by_test (octets_equal name (codes "$origin"))
    (λ _. argument_once _ ws i j) (λ _. argument_once _ ws i j) h k

module _ (o : DomainName) (earlier : List Entry) where
  word_once : (s : EntryKind) (fault : FileFault) (i j : ℕ)
      → FaultyWord o earlier s fault i → FaultyWord o earlier s fault j → i ≡ j
  word_once s unknown_directive i j h k = h ∙ sym k
  word_once s directive_words i j h k = directive_once o earlier s i j h k
  word_once s bad_owner i j h k = h ∙ sym k
  word_once s bad_ttl i j h k = h ∙ sym k
  word_once s other_class i j h k = h ∙ sym k
  word_once s bad_type i j h k = h ∙ sym k
  word_once s no_ttl i j h k = h ∙ sym k
  word_once s bad_data i j h k = for_both o earlier (fields (record_words s)).others
      (λ t ws m. (l : ℕ) × FaultyData t ws m l × (i ≡ before_type s + l))
      (λ t ws m. (l : ℕ) × FaultyData t ws m l × (j ≡ before_type s + l)) (λ t m p q. p.2 ∙ ap (λ n. before_type s + n)
      (data_once t (drop 1 (fields (record_words s)).others) m p.0 q.0 p.1 q.1) ∙ sym q.2) h k
  word_once s bad_octet i j h k = absurd h
  word_once s bad_escape i j h k = absurd h
  word_once s unended_string i j h k = absurd h
  word_once s bad_parenthesis i j h k = absurd h
  word_once s no_owner i j h k = absurd h
  word_once s too_many_records i j h k = absurd h
  word_once s too_long i j h k = absurd h
  word_once s unreadable i j h k = absurd h
  word_once s no_memory i j h k = absurd h

  by_word : (e : PlacedEntry) (fault : FileFault) (p q : Span)
      → (i : ℕ) × FaultyWord o earlier (kind_of e.entry) fault i × (p ≡ place_after i e)
      → (i : ℕ) × FaultyWord o earlier (kind_of e.entry) fault i × (q ≡ place_after i e) → p ≡ q
  by_word e fault p q h k =
      h.2 ∙ ap (λ i. place_after i e) (word_once (kind_of e.entry) fault h.0 k.0 h.1 k.1) ∙ sym k.2

  place_once : (e : PlacedEntry) (fault : FileFault) (p q : Span)
      → PlaceIs o earlier e fault p → PlaceIs o earlier e fault q → p ≡ q
  place_once e bad_octet p q h k = h ∙ sym k
  place_once e bad_escape p q h k = h ∙ sym k
  place_once e unended_string p q h k = h ∙ sym k
  place_once e bad_parenthesis p q h k = h ∙ sym k
  place_once e too_long p q h k = h ∙ sym k
  place_once e no_owner p q h k = h ∙ sym k
  place_once e too_many_records p q h k = h ∙ sym k
  place_once e unknown_directive p q h k = by_word e unknown_directive p q h k
  place_once e directive_words p q h k = by_word e directive_words p q h k
  place_once e bad_owner p q h k = by_word e bad_owner p q h k
  place_once e bad_ttl p q h k = by_word e bad_ttl p q h k
  place_once e other_class p q h k = by_word e other_class p q h k
  place_once e bad_type p q h k = by_word e bad_type p q h k
  place_once e no_ttl p q h k = by_word e no_ttl p q h k
  place_once e bad_data p q h k = by_word e bad_data p q h k
  place_once e unreadable p q h k = by_word e unreadable p q h k
  place_once e no_memory p q h k = by_word e no_memory p q h k

  number_once : (s : EntryKind) (fault : FileFault) (m n : Option ℕ)
      → NumberIs o earlier s fault m → NumberIs o earlier s fault n → m ≡ n
  number_once s bad_data m n h k = for_both o earlier (fields (record_words s)).others
      (λ t ws r. (k : ℕ) × DataFaultIs t ws r k × (m ≡ Some k))
      (λ t ws r. (k : ℕ) × DataFaultIs t ws r k × (n ≡ Some k)) (λ t r p q. p.2 ∙ ap (λ x. Some x) (fault_once t (drop 1 (fields (record_words s)).others) r p.0 q.0 p.1 q.1) ∙ sym q.2) h k
  number_once s bad_owner m n h k = h ∙ sym k
  number_once s bad_octet m n h k = h ∙ sym k
  number_once s bad_escape m n h k = h ∙ sym k
  number_once s unended_string m n h k = h ∙ sym k
  number_once s bad_parenthesis m n h k = h ∙ sym k
  number_once s unknown_directive m n h k = h ∙ sym k
  number_once s directive_words m n h k = h ∙ sym k
  number_once s no_owner m n h k = h ∙ sym k
  number_once s bad_ttl m n h k = h ∙ sym k
  number_once s other_class m n h k = h ∙ sym k
  number_once s bad_type m n h k = h ∙ sym k
  number_once s no_ttl m n h k = h ∙ sym k
  number_once s too_many_records m n h k = h ∙ sym k
  number_once s too_long m n h k = h ∙ sym k
  number_once s unreadable m n h k = h ∙ sym k
  number_once s no_memory m n h k = h ∙ sym k

  code_of : EntryMeaning → Option FileFault
  code_of (faulty fault) = Some fault
  code_of (gives rs) = None

  records_of : EntryMeaning → List ResourceRecord
  records_of (faulty fault) = []
  records_of (gives rs) = rs

  same_fault : (e : Entry) (f g : FileFault)
      → EntryGives o earlier e (faulty f) → EntryGives o earlier e (faulty g) → f ≡ g
  unfolding code_of
  same_fault e f g h k =
      same_Some f g (ap code_of (entry_gives_once o earlier e (faulty f) (faulty g) h k))

  fault_is_once : (e : PlacedEntry) (f g : EntryFault)
      → HasFault o earlier e f → HasFault o earlier e g → f ≡ g
  fault_is_once e f g h k =
      let same : f.fault ≡ g.fault = same_fault e.entry f.fault g.fault h.given k.given in
      let number = number_once (kind_of e.entry) g.fault f.number g.number
      (subst (λ x. NumberIs o earlier (kind_of e.entry) x f.number) same h.number) k.number in
      let place = place_once e g.fault f.place g.place
      (subst (λ x. PlaceIs o earlier e x f.place) same h.place) k.place in
      let entry : f.entry ≡ g.entry = h.entry ∙ sym k.entry in
      λ i. record { fault = same i; number = number i; place = place i; entry = entry i }

  own_once : (e : Entry) (rs ss : List ResourceRecord)
      → GivesOwn o earlier e rs → GivesOwn o earlier e ss → rs ≡ ss
  unfolding records_of
  own_once e rs ss (inl h) (inl k) =
      ap records_of (entry_gives_once o earlier e (gives rs) (gives ss) h k)
  own_once e rs ss (inl h) (inr k) = absurd (k.0 (gives rs) h)
  own_once e rs ss (inr h) (inl k) = absurd (h.0 (gives ss) k)
  own_once e rs ss (inr h) (inr k) = h.1 ∙ sym k.1

  not_both : (e : PlacedEntry) (f : EntryFault) (rs : List ResourceRecord)
      → HasFault o earlier e f → GivesOwn o earlier e.entry rs → ⊥
  not_both e f rs h (inl given) = faultless rs f.fault
      (entry_gives_once o earlier e.entry (gives rs) (faulty f.fault) given h.given)
  not_both e f rs h (inr none) = none.0 (faulty f.fault) h.given

  back_once : (e : Entry) (now then : List Entry)
      → LookBack o e earlier now → LookBack o e earlier then → now ≡ then
  back_once e now then (inl h) (inl k) = h.1 ∙ sym k.1
  back_once e now then (inl h) (inr k) = absurd (h.0 k.0)
  back_once e now then (inr h) (inl k) = absurd (k.0 h.0)
  back_once e now then (inr h) (inr k) = h.1 ∙ sym k.1

entries_give_once : (o : DomainName) (earlier : List Entry) (es : List PlacedEntry)
    (found found' : List EntryFault) (rs rs' : List ResourceRecord)
    → EntriesGive o earlier es found rs → EntriesGive o earlier es found' rs'
    → (found ≡ found') × (rs ≡ rs')
entries_give_once o earlier [] found found' rs rs' h k = (h.0 ∙ sym k.0, h.1 ∙ sym k.1)
entries_give_once o earlier (e ∷ es) found found' rs rs'
    (inl (f, has, (more, is, tail))) (inl (g, has', (more', is', tail'))) =
    let same = fault_is_once o earlier e f g has has' in
    let later = both_by_test (is_last g.fault)
    (λ _ h k. (h.0 ∙ sym k.0, h.1 ∙ sym k.1))
    (λ _ h k. entries_give_once o k.0 es more more' rs rs'
    (subst (λ l. EntriesGive o l es more rs) (back_once o earlier e.entry h.0 k.0 h.1 k.1) h.2)
    k.2)
    (subst (λ (x : EntryFault). MatchBool (is_last x.fault) ((more ≡ []) × (rs ≡ []))
    ((now : List Entry) × LookBack o e.entry earlier now × EntriesGive o now es more rs)) same tail)
    tail' in
    (is ∙ ap₂ (λ x xs. x ∷ xs) same later.0 ∙ sym is', later.1)
entries_give_once o earlier (e ∷ es) found found' rs rs' (inl (f, has, h)) (inr (own, given, k)) =
    absurd (not_both o earlier e f own has given)
entries_give_once o earlier (e ∷ es) found found' rs rs' (inr (own, given, h)) (inl (f, has, k)) =
    absurd (not_both o earlier e f own has given)
entries_give_once o earlier (e ∷ es) found found' rs rs'
    (inr (own, given, (later, is, tail))) (inr (own', given', (later', is', tail'))) =
    let rest = entries_give_once o (e.entry ∷ earlier) es found found' later later' tail tail' in (
      rest.0,
      is ∙ ap₂ (λ x y. x ++ y) (own_once o earlier e.entry own own' given given') rest.1
          ∙ sym is',
    )

pub one_listing : (o : DomainName) (text : Octets) (found others : List EntryFault)
    (rs ss : List ResourceRecord) → AllFaults o text found rs → AllFaults o text others ss
    → (found ≡ others) × (rs ≡ ss)
one_listing o text found others rs ss h k =
    entries_give_once o [] (placed_entries text) found others rs ss h k
