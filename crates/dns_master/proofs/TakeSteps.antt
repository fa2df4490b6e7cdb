-- The parts of a record, in order, if earlier entries may be faulty; and the places of its faults.
use Rattle.dns_master.proofs.Common.{cut, lower_case, lowered-twice, IsKept, ◌⊎◌, ◌≡◌, ℕ, ◌+◌, ◌-◌, ◌≤◌, Bool, true, false, List, [], ◌∷◌, length, drop, prefix_len, prefix_len-le-length, refl, sym, ap, ◌∙◌, subst, inl, inr, arith, codes, Option, Some, None, false≢true, is_none, Octets, DomainName, folded, SpellsName, ResourceRecord, Word, Says, Entry, FileFault, bad_data, bad_type, bad_owner, no_owner, no_ttl, other_class, too_many_records, directive_words, Nothing, Lowest, IsRecord, Fields, fields, EntryKind, directive, EntryMeaning, faulty, gives, OriginIs, NameIs, OwnerBefore, TtlSays, ttl_in_force, TypeIs, DataIs, IsNoTtl, is_other_class, not, are_too_many, RecordGives, KindGives, MatchOption, IsTrue, option_or, nat_le, ◌==◌}
use Rattle.std.specs.Bool.{MatchBool}
use Rattle.dns_spec.specs.FileFaults.{bad_octet, bad_escape, unended_string, bad_parenthesis, unknown_directive, bad_ttl, too_long, unreadable, no_memory}
use Rattle.dns_master.proofs.Common.{same_text, none-some}
use Rattle.dns_spec.specs.Names.{octets_equal}
use Rattle.dns_spec.specs.Meaning.{DirectiveSays, class_after, ttl_after, is_ttl_word, is_class_word}
use Rattle.dns_spec.specs.Data.{Field}
use Rattle.dns_spec.specs.DataText.{word_fields_of}
use Rattle.dns_spec.specs.DataFaults.{DataFaultIs}
use Rattle.dns_spec.specs.AllFaults.{FaultyArgument, FaultyDirective, FaultyField, FaultyUnknown, FaultyTyped, FaultyData, NumberIs, record_words, words_before}
use Rattle.dns_spec.proofs.ZoneTexts.GivenRecords.{record_given}
use Rattle.dns_spec.proofs.ZoneTexts.OneMeaning.{type_once}
use Rattle.std.specs.Option.{is_some, ForSome}
use Rattle.dns_master.specs.EarlierForm.{SeenTtl, LooksBack, OriginAfter}
use Rattle.std.specs.Prelude.{◌↔◌, ◌<◌}
use Rattle.dns_master.proofs.Common.{ReadCode, fault_of, length-drop, cond}
use Rattle.dns_master.proofs.Common.{if◌then◌else◌}
use Rattle.dns_master.specs.declared.earlier.Earlier.{Earlier}
use Rattle.dns_master.specs.declared.earlier.Blame.{Blame}
use Rattle.dns_master.specs.declared.earlier.RecordFault.{RecordFault}
use Rattle.dns_master.specs.TakeForm.{ForSomeIf, directive_name, BlamedWord, Blamed, KindOwn, NeverGives, FieldsGive, OwnedGives, FieldsDetail, FieldsBlamed, words_to, one_unless}

-- one of two cases, by a test
by_test : {X Y C : Type 0} (b : Bool) → (X → C) → (Y → C) → MatchBool b X Y → C
by_test true f g h = f h
by_test false f g h = g h

field_few : (fs : List Field) (o : DomainName) (n : ℕ) (ws : List Word) (i : ℕ)
    → FaultyField fs o n ws i → i ≤ length ws
field_few [] o n ws i h = absurd h
field_few (f ∷ fs) o n [] i h = absurd h
field_few (f ∷ fs) o n (w ∷ ws) i (inl h) = let is = h.1 in omega (arith, is)
field_few (f ∷ fs) o n (w ∷ ws) i (inr h) =
    by_test (nat_le (n + length h.0) 65535)
    (λ k. let more = field_few fs o (n + length h.0) ws k.0 k.1 in let is = k.2 in
    omega (arith, more, is)) (λ is. omega (arith, is)) h.2

typed_few : (t : ℕ) (o : DomainName) (ws : List Word) (i : ℕ)
    → FaultyTyped t o ws i → i ≤ 1 + length ws
typed_few t o ws i = go (word_fields_of t (length ws))
  where
    go : (form : Option (List Field)) → MatchOption form (i ≡ 1)
        (λ fs. MatchBool (length fs == length ws)
        ((j : ℕ) × FaultyField fs o 0 ws j × (i ≡ 1 + j)) (i ≡ 0)) → i ≤ 1 + length ws
    go None is = omega (arith, is)
    go (Some fs) h = grind (arith, field_few)

unknown_few : (ws : List Word) (i : ℕ) → FaultyUnknown ws i → i ≤ 1 + length ws
unknown_few [] i is = omega (arith, is)
unknown_few (w ∷ ws) i h = grind (arith, prefix_len-le-length)

pub data_few : (t : ℕ) (ws : List Word) (o : DomainName) (i : ℕ)
    → FaultyData t ws o i → i ≤ 1 + length ws
data_few t [] o i is = omega (arith, is)
data_few t (w ∷ ws) o i h = grind (arith, unknown_few, typed_few)

pub fields-data_few : (t : ℕ) (others : List Word) (o : DomainName) (i : ℕ)
    → FaultyData t (drop 1 others) o i → i ≤ 1 + length others
fields-data_few t others o i h =
    let few = data_few t (drop 1 others) o i h in
    let less = length-drop 1 others in omega (arith, few, less)

class-few : (w : Word) (ws : List Word) → length (class_after w ws).others ≤ length ws
class-few w [] = omega arith
class-few w (v ∷ ws) = grind arith

ttl-few : (w : Word) (ws : List Word) → length (ttl_after w ws).others ≤ length ws
ttl-few w [] = omega arith
ttl-few w (v ∷ ws) = grind arith

-- the fields leave at most the words that there are
pub fields_few : (ws : List Word) → length (fields ws).others ≤ length ws
fields_few [] = omega arith
fields_few (w ∷ ws) = go (is_ttl_word w) (is_class_word w)
  where
    go : (a b : Bool) → length (Fields.others (cond a (class_after w ws) (cond b (ttl_after w ws)
        (record { ttl = None; class = None; others = w ∷ ws })))) ≤ length (w ∷ ws)
    go true b = omega (arith, class-few w ws)
    go false true = omega (arith, ttl-few w ws)
    go false false = omega arith

none_seen : (w : Option Word) (x : Option (Option ℕ)) → SeenTtl w x → x ≡ None
    → is_none w ≡ true
none_seen w x h e = grind arith

some_seen : (w : Option Word) (v : Option ℕ) → SeenTtl w (Some v) → is_none w ≡ true → ⊥
some_seen w v h k = grind arith

seen_ttl : (w : Option Word) (n : ℕ) → SeenTtl w (Some (Some n))
    → MatchOption w ⊥ (λ w. TtlSays w n)
seen_ttl w n h = grind arith

seen_invalid : (w : Option Word) (n : ℕ) → SeenTtl w (Some None)
    → MatchOption w ⊥ (λ w. TtlSays w n) → ⊥
seen_invalid w n h k = grind arith

seen-or : (v w : Option Word) (m n : Option (Option ℕ)) → SeenTtl v m → SeenTtl w n
    → SeenTtl (option_or v w) (option_or m n)
seen-or v w m n h k = grind arith

-- what was seen of the TTL that a record states, and of the last one before it that is stated
module _ (stated w : Option Word) (seen : Option (Option ℕ))
    (h : SeenTtl (option_or stated w) seen) where
  pub in-force : (d : Option Word) (default : Option (Option ℕ)) (b : Bool)
      → b ≡ is_some stated → SeenTtl d default
      → SeenTtl (option_or stated (option_or d w)) (if b then seen else option_or default seen)
  in-force d default b e k = grind arith

  pub ttl-valid : (is_some stated ≡ true → seen ≡ Some None → ⊥) → IsNoTtl stated → ⊥
  ttl-valid valid = go stated h valid
    where
      by_value : (v : Word) (x : Option ℕ) → ((n : ℕ) → (x ≡ Some n) ↔ TtlSays v n)
          → (x ≡ None → ⊥) → IsNoTtl (Some v) → ⊥
      by_value v None says some none = some refl
      by_value v (Some n) says some none = none n ((says n).0 refl)

      go : (stated : Option Word) → SeenTtl (option_or stated w) seen
          → (is_some stated ≡ true → seen ≡ Some None → ⊥) → IsNoTtl stated → ⊥
      go None h valid none = none
      go (Some v) h valid none =
          by_value v h.0 h.2 (λ e. valid refl (h.1 ∙ ap (λ x. Some x) e)) none

module _ (o : DomainName) (earlier : List Entry) (owner : DomainName) (f : Fields) where
  named : Nothing (λ (n : DomainName). n ≡ owner) → ⊥
  named none = none owner refl

  is_in : is_other_class f.class ≡ false → is_other_class f.class ≡ true → ⊥
  is_in e h = false≢true (sym e ∙ h)

  pub class-blamed : (IsNoTtl f.ttl → ⊥) → is_other_class f.class ≡ true
      → OwnedGives o earlier owner f (faulty other_class)
  class-blamed a h = inr (named, inr (a, inl (h, refl)))

  pub type-blamed : (IsNoTtl f.ttl → ⊥) → is_other_class f.class ≡ false
      → Nothing (TypeIs f.others) → OwnedGives o earlier owner f (faulty bad_type)
  type-blamed a b h = inr (named, inr (a, inr (is_in b, inl (h, refl))))

  pub no_ttl-blamed : (t : ℕ) → (IsNoTtl f.ttl → ⊥) → is_other_class f.class ≡ false
      → TypeIs f.others t → SeenTtl (ttl_in_force earlier f.ttl) None
      → OwnedGives o earlier owner f (faulty no_ttl)
  no_ttl-blamed t a b c k = grind (arith, none_seen)

-- a record with these fields has this type, the TTL in force was seen, and this origin is in force
pub record WithTtl (o : DomainName) (earlier : List Entry) (f : Fields) (t : ℕ) (v : Option ℕ)
    (origin : DomainName) : Type 0 where
  pub ttl : IsNoTtl f.ttl → ⊥
  pub class : is_other_class f.class ≡ false
  pub type : TypeIs f.others t
  pub in_force : SeenTtl (ttl_in_force earlier f.ttl) (Some v)
  pub origin_is : OriginIs o earlier origin
  pub only : (n : DomainName) → OriginIs o earlier n → n ≡ origin

module _ (o : DomainName) (earlier : List Entry) (owner : DomainName) (f : Fields) (t : ℕ)
    (v : Option ℕ) (origin : DomainName) (k : WithTtl o earlier f t v origin) where
  typed : Nothing (TypeIs f.others) → ⊥
  typed none = none t k.type

  from_data : (given : EntryMeaning) → Lowest ((bad_data, Nothing (DataIs o earlier f.others))
      ∷ (too_many_records, IsTrue (are_too_many earlier)) ∷ []) (λ given. (r : ResourceRecord)
      × IsRecord o earlier (λ n. n ≡ owner) f r × (given ≡ gives (r ∷ []))) given
      → OwnedGives o earlier owner f given
  from_data given rest =
      let class = is_in o earlier owner f k.class in
      let seen = some_seen (ttl_in_force earlier f.ttl) v k.in_force in
      inr (named o earlier owner f, inr (k.ttl, inr (class, inr (typed, inr (seen, rest)))))

  pub data-blamed : Nothing (Says t (drop 1 f.others) origin)
      → OwnedGives o earlier owner f (faulty bad_data)
  data-blamed none =
      let other : Nothing (DataIs o earlier f.others) = λ d h.
      none d (subst (λ u. Says u (drop 1 f.others) origin d) (type_once f.others h.0 t h.1 k.type)
      (subst (λ m. Says h.0 (drop 1 f.others) m d) (k.only h.2.0 h.2.1) h.2.2)) in
      from_data (faulty bad_data) (inl (other, refl))

  -- the number and the word of invalid data
  pub data-detail : (j n : ℕ) → DataFaultIs t (drop 1 f.others) origin j
      → FaultyData t (drop 1 f.others) origin n
      → FieldsDetail o earlier f bad_data (Some j) n
  data-detail j n which word = (
    (t, k.type, (origin, k.origin_is, (j, which, refl))),
    (t, k.type, (origin, k.origin_is, word)),
  )

  module _ (d : Octets) (said : Says t (drop 1 f.others) origin d) where
    has_data : Nothing (DataIs o earlier f.others) → ⊥
    has_data none = none d (t, k.type, (origin, k.origin_is, said))

    pub count-blamed : are_too_many earlier ≡ true
        → OwnedGives o earlier owner f (faulty too_many_records)
    count-blamed h = from_data (faulty too_many_records) (inr (has_data, inl (h, refl)))

    pub record-own : (ttl : ℕ) → v ≡ Some ttl → folded owner ≡ owner
        → are_too_many earlier ≡ false → OwnedGives o earlier owner f
        (gives (record { owner = owner; ttl = ttl; rtype = t; rdata = d } ∷ []))
    record-own ttl v_is low few =
        record_given o earlier no_owner (λ n. n ≡ owner) f _ (record {
          owner = (owner, refl, sym low);
          ttl = seen_ttl (ttl_in_force earlier f.ttl) ttl (rw v_is at k.in_force);
          rtype = k.type;
          rdata = (t, k.type, (origin, k.origin_is, said));
        }) k.class few

    never : v ≡ None → are_too_many earlier ≡ false → (code : FileFault)
        (Owner : DomainName → Type 0) → (Nothing Owner → ⊥)
        → (given : EntryMeaning) → RecordGives o earlier code Owner f given → ⊥
    never v_is few code Owner some given (inl h) = some h.0
    never v_is few code Owner some given (inr (x, inl h)) = k.ttl h.0
    never v_is few code Owner some given (inr (x, inr (y, inl h))) =
        is_in o earlier owner f k.class h.0
    never v_is few code Owner some given (inr (x, inr (y, inr (z, inl h)))) = typed h.0
    never v_is few code Owner some given (inr (x, inr (y, inr (z, inr (u, inl h))))) =
        some_seen (ttl_in_force earlier f.ttl) v k.in_force h.0
    never v_is few code Owner some given
        (inr (x, inr (y, inr (z, inr (u, inr (p, inl h)))))) = has_data h.0
    never v_is few code Owner some given
        (inr (x, inr (y, inr (z, inr (u, inr (p, inr (q, inl h))))))) =
        false≢true (sym few ∙ h.0)
    never v_is few code Owner some given
        (inr (x, inr (y, inr (z, inr (u, inr (p, inr (q, inr h))))))) =
        seen_invalid (ttl_in_force earlier f.ttl) h.1.0.ttl (rw v_is at k.in_force) h.1.1.ttl

    -- if the TTL in force is invalid, such a record gives nothing, whatever its owner
    pub none-own : v ≡ None → are_too_many earlier ≡ false → NeverGives o earlier f
    none-own v_is few = record {
      owned = λ w n named. never v_is few bad_owner (NameIs o earlier w) (λ none. none n named);
      unowned = λ n before. never v_is few no_owner (OwnerBefore o earlier)
          (λ none. none n before);
    }

one-by : (test : Word → Bool) (w : Word)
    → one_unless test (w ∷ []) ≡ prefix_len (λ w. not (test w)) (w ∷ [])
one-by test w = grind arith

-- the first word or the second passes the test
place-by : (test : Word → Bool) (w v : Word) (ws : List Word) → (test w ≡ false → test v ≡ true)
    → one_unless test (w ∷ v ∷ ws) ≡ prefix_len (λ w. not (test w)) (w ∷ v ∷ ws)
place-by test w v ws h = go (test w) (test v) h
  where
    go : (a b : Bool) → (a ≡ false → b ≡ true)
        → cond a 0 1 ≡ cond (not a) (1 + cond (not b) (1 + prefix_len (λ w. not (test w)) ws) 0) 0
    go true b h = refl
    go false true h = refl
    go false false h = absurd (false≢true (h refl))

-- the TTL that is stated is the first word or the second, and so is the class
ttl_place : (ws : List Word) → IsNoTtl (fields ws).ttl
    → one_unless is_ttl_word ws ≡ prefix_len (λ w. not (is_ttl_word w)) ws
ttl_place [] h = absurd h
ttl_place (w ∷ []) h = one-by is_ttl_word w
ttl_place (w ∷ v ∷ ws) h = place-by is_ttl_word w v ws (λ no. grind arith)

other-stated : (class : Option Word) → is_other_class class ≡ true → is_some class ≡ true
other-stated None h = h
other-stated (Some w) h = refl

class-second : (w v : Word) (ws : List Word) → is_some (fields (w ∷ v ∷ ws)).class ≡ true
    → is_class_word w ≡ false → is_class_word v ≡ true
class-second w v ws h other = grind arith

class_place : (ws : List Word) → is_other_class (fields ws).class ≡ true
    → one_unless is_class_word ws ≡ prefix_len (λ w. not (is_class_word w)) ws
class_place [] h = absurd (false≢true h)
class_place (w ∷ []) h = one-by is_class_word w
class_place (w ∷ v ∷ ws) h =
    place-by is_class_word w v ws (class-second w v ws (other-stated _ h))

module _ (o : DomainName) (earlier : List Entry) (s : EntryKind) where
  abbrev ws : List Word
  ws = record_words s

  abbrev Detail : FileFault → Option ℕ → ℕ → Type 0
  Detail fault number n = FieldsDetail o earlier (fields ws) fault number n

  pub told_by : (fault : FileFault) (number : Option ℕ) (n i : ℕ) → Detail fault number n
      → i ≡ words_before s + words_to fault ws n
      → NumberIs o earlier s fault number × BlamedWord o earlier s fault i
  told_by bad_ttl number n i d e =
      (d.0, e ∙ ap (λ m. words_before s + m) (ttl_place ws d.1))
  told_by other_class number n i d e =
      (d.0, e ∙ ap (λ m. words_before s + m) (class_place ws d.1))
  told_by bad_type number n i d e = (d, e)
  told_by no_ttl number n i d e = (d, e)
  told_by bad_data number n i d e =
      (d.0, (d.1.0, d.1.1, (d.1.2.0, d.1.2.1, (n, d.1.2.2, omega (arith, e)))))
  told_by too_many_records number n i d e = (d, tt)
  told_by bad_owner number n i d e = absurd d
  told_by no_owner number n i d e = absurd d
  told_by unknown_directive number n i d e = absurd d
  told_by directive_words number n i d e = absurd d
  told_by bad_octet number n i d e = absurd d
  told_by bad_escape number n i d e = absurd d
  told_by unended_string number n i d e = absurd d
  told_by bad_parenthesis number n i d e = absurd d
  told_by too_long number n i d e = absurd d
  told_by unreadable number n i d e = absurd d
  told_by no_memory number n i d e = absurd d

-- a blame by its parts
pub blamed-by : (o : DomainName) (earlier : List Entry) (s : EntryKind) (b : Blame)
    (code : ReadCode) (number : Option ℕ) (i : ℕ) → b.code ≡ code → b.number ≡ number
    → b.words ≡ i → KindGives o earlier s (faulty (fault_of code))
    → NumberIs o earlier s (fault_of code) number → BlamedWord o earlier s (fault_of code) i
    → Blamed o earlier s b
blamed-by o earlier s b code number i p q r given number_is word =
    record { given = rw p given; number = rw (p, q) number_is; word = rw (p, r) word }

-- whether the first argument of `$TTL` is a TTL, and that of `$ORIGIN` a name
pub argument-says : (w : Word) (v : Option ℕ) → ((n : ℕ) → (v ≡ Some n) ↔ TtlSays w n)
    → ForSomeIf (is_some v) (TtlSays w)
argument-says w (Some n) h = (n, (h n).0 refl)
argument-says w None h = λ n says. none-some n ((h n).1 says)

pub argument-named : (o : DomainName) (earlier : List Entry) (w : Word) (origin n : DomainName)
    → OriginIs o earlier origin → SpellsName origin w.raw n
    → ForSomeIf (not w.is_quoted) (NameIs o earlier w)
argument-named o earlier w origin n is spelled = go w.is_quoted refl
  where
    go : (b : Bool) → w.is_quoted ≡ b → ForSomeIf (not w.is_quoted) (NameIs o earlier w)
    go true e = rw e (λ m h. false≢true h.0)
    go false e = rw e (n, (refl, (origin, is, spelled)))

-- the arguments of a directive, by the first one
module _ {A : Type 0} (P : A → Word → Type 0) (w : Word) where
  first-faulty : (ws : List Word) → Nothing (λ v. P v w)
      → DirectiveSays P (w ∷ ws) (faulty directive_words) × FaultyArgument P (w ∷ ws) 1
  first-faulty [] h = (inl (h, refl), inl (h, refl))
  first-faulty (v ∷ more) h = (inl ((λ m k. k), refl), inl (h, refl))

  second-faulty : (ws : List Word) → (v : A) × P v w → 0 < length ws
      → DirectiveSays P (w ∷ ws) (faulty directive_words) × FaultyArgument P (w ∷ ws) 2
  second-faulty [] h some = absurd (omega (arith, some))
  second-faulty (v ∷ more) h some = (inl ((λ m k. k), refl), inr ((λ none. none h.0 h.1), refl))

  only-one : (ws : List Word) → (v : A) × P v w → length ws ≡ 0
      → DirectiveSays P (w ∷ ws) (gives [])
  only-one [] h none = inr ((λ none. none h.0 h.1), refl)
  only-one (v ∷ more) h none = absurd (omega (arith, none))

module _ (o : DomainName) (earlier : List Entry) (w : Word) (ws : List Word) where
  abbrev Argument : Bool → Bool → Type 0
  Argument is_origin valid =
      MatchBool is_origin (ForSomeIf valid (NameIs o earlier w)) (ForSomeIf valid (TtlSays w))

  abbrev Faulty : Bool → ℕ → Type 0
  Faulty is_origin i =
      KindGives o earlier (directive (directive_name is_origin) (w ∷ ws)) (faulty directive_words)
      × FaultyDirective o earlier (directive (directive_name is_origin) (w ∷ ws)) i

  pub first-argument : (is_origin : Bool) → Argument is_origin false → Faulty is_origin 1
  first-argument true h = first-faulty (λ n v. NameIs o earlier v n) w ws h
  first-argument false h = first-faulty (λ n v. TtlSays v n) w ws h

  pub second-argument : (is_origin : Bool) → Argument is_origin true → 0 < length ws
      → Faulty is_origin 2
  second-argument true h some = second-faulty (λ n v. NameIs o earlier v n) w ws h some
  second-argument false h some = second-faulty (λ n v. TtlSays v n) w ws h some

  pub one-argument : (k : Earlier) → LooksBack o earlier k → (is_origin : Bool)
      → Argument is_origin true → length ws ≡ 0
      → KindOwn o earlier (directive (directive_name is_origin) (w ∷ ws)) []
  one-argument k known true h none = record {
    given = inl (only-one (λ n v. NameIs o earlier v n) w ws h none);
    origin = λ nowhere. nowhere h.0 h.1.1;
  }
  one-argument k known false h none = record {
    given = inl (only-one (λ n v. TtlSays v n) w ws h none);
    origin = λ nowhere. nowhere k.origin known.origin_is;
  }

pub name-is : (is_origin : Bool) (name : Octets) → is_origin ≡ octets_equal name (codes "$origin")
    → (is_origin ≡ false → octets_equal name (codes "$ttl") ≡ true)
    → name ≡ directive_name is_origin
name-is true name e h = same_text name (codes "$origin") e
name-is false name e h = same_text name (codes "$ttl") (sym (h refl))

otherwise : {F N X Y : Type 0} → (X → Y) → F ⊎ (N × X) → F ⊎ (N × Y)
otherwise f (inl h) = inl h
otherwise f (inr h) = inr (h.0, f h.1)

module _ (o : DomainName) (earlier : List Entry) (Owner : DomainName → Type 0)
    (f : Fields) (n owner : DomainName) (is : Owner n) (low : owner ≡ folded n)
    (twice : folded owner ≡ owner) where
  owned_record : (answer : EntryMeaning)
      → (r : ResourceRecord) × IsRecord o earlier (λ m. m ≡ owner) f r × (answer ≡ gives (r ∷ []))
      → (r : ResourceRecord) × IsRecord o earlier Owner f r × (answer ≡ gives (r ∷ []))
  owned_record answer (r, h, e) = grind (arith, folded)

  -- a record means the same with the owner that was stated as with that owner in lower case
  pub given-owner : (code : FileFault) (answer : EntryMeaning) → RecordGives o earlier no_owner
      (λ m. m ≡ owner) f answer → RecordGives o earlier code Owner f answer
  given-owner code answer (inl h) = absurd (h.0 owner refl)
  given-owner code answer (inr h) =
      inr (
        (λ none. none n is),
        otherwise
            (otherwise (otherwise (otherwise (otherwise (otherwise (owned_record answer)))))) h.1,
      )

-- a record with this owner, which is that of an entry of this kind in lower case, by its fields
module _ (o : DomainName) (earlier : List Entry) (s : EntryKind) (code : FileFault)
    (Owner : DomainName → Type 0) (m owner : DomainName) (is : Owner m) (low : owner ≡ folded m)
    (twice : folded owner ≡ owner)
    (gives_as : (given : EntryMeaning)
    → RecordGives o earlier code Owner (fields (record_words s)) given
    → KindGives o earlier s given)
  where
    pub kind-blamed : (b : Blame) (n : ℕ)
        → FieldsBlamed o earlier owner (fields (record_words s)) (fault_of b.code) b.number n
        → b.words ≡ words_before s + words_to (fault_of b.code) (record_words s) n
        → Blamed o earlier s b
    kind-blamed b n h i =
        let told = told_by o earlier s (fault_of b.code) b.number n b.words h.detail i in
        record {
          given = gives_as _ (given-owner o earlier Owner (fields (record_words s)) m owner is low
              twice code _ h.given);
          number = told.0;
          word = told.1;
        }

    pub kind-own : (rs : List ResourceRecord)
        → FieldsGive o earlier owner (fields (record_words s)) rs
        → (NeverGives o earlier (fields (record_words s)) → Nothing (KindGives o earlier s))
        → (Nothing (OriginAfter o earlier s) → ⊥) → KindOwn o earlier s rs
    kind-own rs h never origin =
        record {
          given = elim h [
            | inl g ↦ inl (gives_as _ (given-owner o earlier Owner (fields (record_words s)) m owner
                is low twice code _ g))
            | inr g ↦ inr (never g.0, g.1)
          ];
          origin = origin;
        }

-- a fault of fields by its parts
pub fields-by : (o : DomainName) (earlier : List Entry) (owner : DomainName) (f g : Fields)
    (r : RecordFault) (code : ReadCode) (number : Option ℕ) (n : ℕ) → f ≡ g → r.code ≡ code
    → r.number ≡ number → OwnedGives o earlier owner f (faulty (fault_of code))
    → FieldsDetail o earlier f (fault_of code) number n
    → FieldsBlamed o earlier owner g (fault_of r.code) r.number n
fields-by o earlier owner f g r code number n same p q given detail =
    subst (λ x. FieldsBlamed o earlier owner x (fault_of r.code) r.number n) same
    (rw (p, q) (record { given = given; detail = detail }))

-- the TTL in force is within its limit
pub in-force_short : (b : Bool) (default stated seen : Option (Option ℕ)) (n : ℕ)
    → seen ≡ (if b then stated else option_or default stated) → seen ≡ Some (Some n)
    → ForSome default (λ t. ForSome t (λ m. m ≤ 2147483647))
    → ForSome stated (λ t. ForSome t (λ m. m ≤ 2147483647)) → n ≤ 2147483647
in-force_short true default stated seen n is e h k = k (Some n) (sym is ∙ e) n refl
in-force_short false None stated seen n is e h k = k (Some n) (sym is ∙ e) n refl
in-force_short false (Some t) stated seen n is e h k = h (Some n) (sym is ∙ e) n refl

-- whether a record that was passed was one too many
pub too-many : (before now n : ℕ) → now ≡ before - 1 → before ≡ 100001 - n → now ≡ 0
    → nat_le 100000 n ≡ true
too-many before now n p q r = grind (arith, p, q, r)

pub not-too-many : (before now n : ℕ) → now ≡ before - 1 → before ≡ 100001 - n → (now ≡ 0 → ⊥)
    → nat_le 100000 n ≡ false
not-too-many before now n p q r = grind (arith, p, q, r)

-- data from words has its names in lower case
pub said-lowered : (t : ℕ) (ws : List Word) (o : DomainName) (d : Octets)
    → Says t ws o d → lower_case t d ≡ d
said-lowered t ws o d e = grind (arith, lower_case, lowered-twice)

-- the root as owner, with TTL 0, type 0 and no data, satisfies the invariant of records
pub no_data-kept : IsKept [] 0 0 []
unfolding cut
no_data-kept = grind arith
