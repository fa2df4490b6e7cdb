-- An entry of more words than are stored is invalid, and so are its stored words.
use Rattle.dns_master.proofs.Common.{◌≡◌, ℕ, zero, suc, ◌+◌, ◌<◌, ◌≤◌, ◌⊎◌, inl, inr, Bool, true, false, if◌then◌else◌, List, [], ◌∷◌, length, length-drop, take, take_all, drop, refl, sym, ◌∙◌, subst, arith, codes, DomainName, ResourceRecord, Word, Entry, FileFault, bad_owner, no_owner, directive, owned, unowned, EntryMeaning, gives, faulty, Nothing, NameIs, OwnerBefore, TtlSays, Fields, fields, TypeIs, DataIs, RecordGives, KindGives, kind_by_words, is_directive, text_in_lower_case, Octets, Option}
use Rattle.std.specs.Bool.{MatchBool}
use Rattle.std.proofs.lemmas.Bool.{cases_lt}
use Rattle.std.proofs.lemmas.List.{length-take}
use Rattle.dns_spec.specs.FileFaults.{unknown_directive}
use Rattle.dns_spec.specs.Names.{octets_equal}
use Rattle.dns_spec.specs.Meaning.{is_ttl_word, is_class_word, DirectiveSays, DirectiveGives}
use Rattle.dns_spec.proofs.DataWords.FewWords.{few_words}
use Rattle.dns_spec.proofs.ZoneTexts.SomeMeaning.{faultless}

-- the most words of an entry that are stored while a file is read
abbrev pub most_words : ℕ
most_words = 65542

-- fields with only the first m words from the type on
abbrev cut_to : ℕ → Fields → Fields
cut_to m f = record { ttl = f.ttl; class = f.class; others = take m f.others }

-- g has the fields of the first n words, and f those of all words; at most two of these words
-- precede the type
abbrev Cut : ℕ → ℕ → Fields → Fields → Type 0
Cut n count g f =
    (m : ℕ) × (n ≤ m + 2) × (count ≤ length f.others + 2) × (g ≡ cut_to m f)

cut-either : (n count : ℕ) (b : Bool) (g g' f f' : Fields) → Cut n count g f → Cut n count g' f'
    → Cut n count (if b then g else g') (if b then f else f')
cut-either n count true g g' f f' h h' = h
cut-either n count false g g' f f' h h' = h'

-- the second word is the last one before the type, or the type itself
second-cut : (k : ℕ) (b : Bool) (ttl ttl' class class' : Option Word) (w v : Word) (ws : List Word)
    → Cut (suc (suc k)) (length (w ∷ v ∷ ws))
    (if b then record { ttl = ttl; class = class; others = take k ws }
    else record { ttl = ttl'; class = class'; others = v ∷ take k ws })
    (if b then record { ttl = ttl; class = class; others = ws }
    else record { ttl = ttl'; class = class'; others = v ∷ ws })
second-cut k b ttl ttl' class class' w v ws =
    cut-either _ _ b _ _ _ _ (k, omega arith, omega arith, refl)
    (suc k, omega arith, omega arith, refl)

fields-cut : (k : ℕ) (ws : List Word)
    → Cut (suc (suc k)) (length ws) (fields (take (suc (suc k)) ws)) (fields ws)
fields-cut k [] = (suc (suc k), omega arith, omega arith, refl)
fields-cut k (w ∷ []) =
    let all : (f : Fields) → Cut (suc (suc k)) 1 (cut_to (suc (suc k)) f) f =
    λ f. (suc (suc k), omega arith, omega arith, refl) in
    cut-either _ _ (is_ttl_word w) _ _ _ _ (all _) (cut-either _ _ (is_class_word w) _ _ _ _
    (all _) (all _))
fields-cut k (w ∷ v ∷ ws) =
    cut-either _ _ (is_ttl_word w) _ _ _ _ (second-cut k (is_class_word v) _ _ _ _ w v ws)
    (cut-either _ _ (is_class_word w) _ _ _ _ (second-cut k (is_ttl_word v) _ _ _ _ w v ws)
    (suc (suc k), omega arith, omega arith, refl))

type-cut : (m : ℕ) (ws : List Word) (t : ℕ) → TypeIs (take (suc m) ws) t → TypeIs ws t
type-cut m [] t h = absurd h
type-cut m (w ∷ ws) t h = h

type-all : (m : ℕ) (ws : List Word) (t : ℕ) → TypeIs ws t → TypeIs (take (suc m) ws) t
type-all m [] t h = absurd h
type-all m (w ∷ ws) t h = h

-- a meaning is a fault
abbrev Refuses : EntryMeaning → Type 0
Refuses given = (rs : List ResourceRecord) → given ≡ gives rs → ⊥

is-fault : (given : EntryMeaning) (code : FileFault) → given ≡ faulty code → Refuses given
is-fault given code is rs e = faultless rs code (sym e ∙ is)

-- Of a list of conditions, the first that holds gives the fault. The first is replaced by an
-- equivalent one, and the others by a consequence of them.
next : {P Q A B : Type 0} {code : FileFault} {given : EntryMeaning} → (P → Q) → (Q → P)
    → (A → B × Refuses given) → (P × (given ≡ faulty code)) ⊎ ((P → ⊥) × A)
    → ((Q × (given ≡ faulty code)) ⊎ ((Q → ⊥) × B)) × Refuses given
next f g later (inl (holds, is)) = (inl (f holds, is), is-fault _ _ is)
next f g later (inr (none, h)) = let rest = later h in (inr (λ q. none (g q), rest.0), rest.1)

same-next : {P A B : Type 0} {code : FileFault} {given : EntryMeaning} → (A → B × Refuses given)
    → (P × (given ≡ faulty code)) ⊎ ((P → ⊥) × A)
    → ((P × (given ≡ faulty code)) ⊎ ((P → ⊥) × B)) × Refuses given
same-next = next (λ p. p) (λ p. p)

last-next : {P Q A B : Type 0} {code : FileFault} {given : EntryMeaning} → Q → P
    → (P × (given ≡ faulty code)) ⊎ ((P → ⊥) × A)
    → ((Q × (given ≡ faulty code)) ⊎ ((Q → ⊥) × B)) × Refuses given
last-next q p (inl (holds, is)) = (inl (q, is), is-fault _ _ is)
last-next q p (inr (none, h)) = absurd (none p)

-- two arguments or more are invalid
says-cut : {A : Type 0} (P : A → Word → Type 0) (w v : Word) (some all : List Word)
    (given : EntryMeaning) → DirectiveSays P (w ∷ v ∷ some) given
    → DirectiveSays P (w ∷ v ∷ all) given × Refuses given
says-cut P w v some all given (inl (none, is)) = (inl (none, is), is-fault given _ is)
says-cut P w v some all given (inr (one, is)) = absurd (one (λ x h. h))

module _ (o : DomainName) (earlier : List Entry) where
  -- more than 65,538 words, with the type, spell no data
  no-data : (ws : List Word) → 65538 < length ws → Nothing (DataIs o earlier ws)
  no-data ws long d (t, is, (m, origin, says)) =
      omega (arith, long, length-drop 1 ws, few_words t (drop 1 ws) m d says)

  record-cut : (code : FileFault) (Owner : DomainName → Type 0) (m : ℕ) (f : Fields)
      (given : EntryMeaning) → 65538 < length f.others → 65538 < length (take (suc m) f.others)
      → RecordGives o earlier code Owner (cut_to (suc m) f) given
      → RecordGives o earlier code Owner f given × Refuses given
  record-cut code Owner m f given long long' =
      same-next (same-next (same-next (next
      (λ none t h. none t (type-all m f.others t h)) (λ none t h. none t (type-cut m f.others t h))
      (same-next (last-next (no-data f.others long) (no-data (take (suc m) f.others) long'))))))

  directive-cut : (name : Octets) (w v : Word) (some all : List Word) (given : EntryMeaning)
      → DirectiveGives o earlier name (w ∷ v ∷ some) given
      → DirectiveGives o earlier name (w ∷ v ∷ all) given × Refuses given
  directive-cut name w v some all given =
      go (octets_equal name (codes "$origin")) (octets_equal name (codes "$ttl"))
    where
      Gives : Bool → Bool → List Word → Type 0
      Gives a b ws = MatchBool a (DirectiveSays (λ n u. NameIs o earlier u n) ws given)
          (MatchBool b (DirectiveSays (λ n u. TtlSays u n) ws given)
          (given ≡ faulty unknown_directive))

      go : (a b : Bool) → Gives a b (w ∷ v ∷ some) → Gives a b (w ∷ v ∷ all) × Refuses given
      go true b h = says-cut (λ n u. NameIs o earlier u n) w v some all given h
      go false true h = says-cut (λ n u. TtlSays u n) w v some all given h
      go false false h = (h, is-fault given _ h)

  -- a record of more words than may be valid means what its first k + 2 words after the owner mean:
  -- a fault
  words-cut : (code : FileFault) (Owner : DomainName → Type 0) (k : ℕ) (ws : List Word)
      (given : EntryMeaning) → 65539 ≤ k → suc (suc k) ≤ length ws
      → RecordGives o earlier code Owner (fields (take (suc (suc k)) ws)) given
      → RecordGives o earlier code Owner (fields ws) given × Refuses given
  words-cut code Owner k ws given most full h = by_cut (fields-cut k ws)
    where
      by_cut : Cut (suc (suc k)) (length ws) (fields (take (suc (suc k)) ws)) (fields ws)
          → RecordGives o earlier code Owner (fields ws) given × Refuses given
      by_cut (zero, few, left, is) = absurd (omega (arith, few, most))
      by_cut (suc m, few, left, is) =
          let long : 65538 < length (fields ws).others = omega (arith, left, full, most) in
          record-cut code Owner m (fields ws) given long
          (omega (arith, length-take (suc m) (fields ws).others, long, few, most))
          (subst (λ f. RecordGives o earlier code Owner f given) is h)

  -- an entry of more words than may be valid means what its first k + 3 words mean: a fault
  kind-cut : (k : ℕ) (b : Bool) (ws : List Word) (given : EntryMeaning) → 65539 ≤ k
      → suc (suc (suc k)) ≤ length ws
      → KindGives o earlier (kind_by_words b (take (suc (suc (suc k))) ws)) given
      → KindGives o earlier (kind_by_words b ws) given × Refuses given
  kind-cut k b [] given most full h = absurd (omega (arith, full))
  kind-cut k b (w ∷ []) given most full h = absurd (omega (arith, full))
  kind-cut k b (w ∷ v ∷ []) given most full h = absurd (omega (arith, full))
  kind-cut k b (w ∷ v ∷ u ∷ ws) given most full h = go b (is_directive w) h
    where
      Gives : Bool → Bool → List Word → Type 0
      Gives b d others = KindGives o earlier
          (if b then unowned (w ∷ others)
          else if d then directive (text_in_lower_case w.raw) others else owned w others) given

      go : (b d : Bool) → Gives b d (take (suc (suc k)) (v ∷ u ∷ ws))
          → Gives b d (v ∷ u ∷ ws) × Refuses given
      go true d h = words-cut no_owner (OwnerBefore o earlier) (suc k) (w ∷ v ∷ u ∷ ws) given
          (omega (arith, most)) full h
      go false true h = directive-cut (text_in_lower_case w.raw) v u (take k ws) ws given h
      go false false h = words-cut bad_owner (NameIs o earlier w) k (v ∷ u ∷ ws) given
          most (omega (arith, full)) h

  -- an entry means what its stored words mean
  pub stored-mean : (b : Bool) (ws : List Word) (given : EntryMeaning)
      → KindGives o earlier (kind_by_words b (take most_words ws)) given
      → KindGives o earlier (kind_by_words b ws) given
  stored-mean b ws given h = elim (cases_lt (length ws) most_words) [
    | inl few ↦ subst (λ all. KindGives o earlier (kind_by_words b all) given)
        (take_all most_words ws (omega (arith, few))) h
    | inr full ↦ (kind-cut 65539 b ws given (omega arith) full h).0
  ]

  -- all words of an entry without a fault are stored
  pub all-stored : (b : Bool) (ws : List Word) (rs : List ResourceRecord)
      → KindGives o earlier (kind_by_words b (take most_words ws)) (gives rs)
      → take most_words ws ≡ ws
  all-stored b ws rs h = elim (cases_lt (length ws) most_words) [
    | inl few ↦ take_all most_words ws (omega (arith, few))
    | inr full ↦ absurd ((kind-cut 65539 b ws (gives rs) (omega arith) full h).1 rs refl)
  ]
