-- Words are taken from the left, each by its field: what the first words spell, followed by what
-- the other words spell by the remaining fields, is what all words spell by all fields.
use Rattle.dns_spec.specs.AllFaults.{FaultyField}
use Rattle.dns_rdata.proofs.Common.{◌≡◌, ℕ, zero, suc, inl, inr, Bool, true, false, nat_le, MatchBool, le-leb, lt-leb, FieldsFaultIs, field_fault, subst, subst₂, ◌+◌, ◌<◌, ◌≤◌, List, [], ◌∷◌, ◌++◌, length, drop, drop-cons, get_or, slice_get, Some, refl, sym, ap, ◌∙◌, arith, none-some, same_Some, Octets, DomainName, Field, Word, SaysWord, SaysFields, append_assoc, length-append, length-drop, length-map, suc-eq-add-one, canonical_octets, Appends}

-- the words spell d in order, one word for each field, and e is d with its names in lower case
abbrev pub SaysKept : List Field → DomainName → List Word → Octets → Octets → Type 0
SaysKept [] origin [] d e = (d ≡ []) × (e ≡ [])
SaysKept [] origin (w ∷ ws) d e = ⊥
SaysKept (f ∷ fs) origin [] d e = ⊥
SaysKept (f ∷ fs) origin (w ∷ ws) d e =
    (front : Octets) × (back : Octets) × (low : Octets) × (d ≡ front ++ back)
    × (e ≡ canonical_octets f front ++ low) × SaysWord f origin w front
    × SaysKept fs origin ws back low

-- words for which `SaysKept` holds spell the data d
pub kept_said : (fs : List Field) (origin : DomainName) (ws : List Word) (d e : Octets)
    → SaysKept fs origin ws d e → SaysFields fs origin ws d
kept_said [] origin [] d e h = h.0
kept_said [] origin (w ∷ ws) d e h = absurd h
kept_said (f ∷ fs) origin [] d e h = absurd h
kept_said (f ∷ fs) origin (w ∷ ws) d e (front, back, low, is, kept_is, said, h) =
    (front, back, is, said, kept_said fs origin ws back low h)

-- the two cases of `MatchBool`
at_true : {b : Bool} (P Q : Type 0) → b ≡ true → P → MatchBool b P Q
at_true P Q e h = grind arith

at_false : {b : Bool} (P Q : Type 0) → b ≡ false → Q → MatchBool b P Q
at_false P Q e h = grind arith

length-canonical_octets : (f : Field) (d : Octets) → length (canonical_octets f d) ≡ length d
length-canonical_octets f d = grind (arith, length-map)

-- All words are `ws`, and all fields `fs`. The words before `rest` were taken by the fields before
-- `left`, and `octets` is what they spell, with names in lower case.
pub record Taken (fs left : List Field) (origin : DomainName) (ws rest : List Word)
    (octets : Octets) : Type 0 where
  pub spelled : Octets
  pub as_long : length octets ≡ length spelled
  pub count : length ws + length left ≡ length fs + length rest
  pub on : (d e : Octets) → SaysKept left origin rest d e
      → SaysKept fs origin ws (spelled ++ d) (octets ++ e)
  pub faulty : (k : ℕ) → FieldsFaultIs left origin (length octets) rest k
      → FieldsFaultIs fs origin 0 ws k
  pub taken : ℕ
  pub passed : length ws ≡ taken + length rest
  pub at : (j : ℕ) → FaultyField left origin (length octets) rest j
      → FaultyField fs origin 0 ws (taken + j)

-- the items from index i on are the one there and those after it
pub item-front : {X : Type 0} (xs : List X) (i : ℕ) (x : X) → i < length xs
    → x ≡ get_or xs i x → drop i xs ≡ x ∷ drop (i + 1) xs
item-front xs i x inside is = grind (arith, drop-cons)

-- the fields from index i on are the field f and those after it
next_field : (fs : List Field) (i : ℕ) (f : Field)
    → slice_get fs i ≡ Some f → drop i fs ≡ f ∷ drop (suc i) fs
next_field [] i f h = absurd (none-some f h)
next_field (g ∷ fs) zero f h = ap (λ x. x ∷ fs) (same_Some g f h)
next_field (g ∷ fs) (suc i) f h = next_field fs i f h

module _ (fs : List Field) (origin : DomainName) (ws : List Word) where
  -- no word was taken yet
  pub none-taken : Taken fs fs origin ws ws []
  none-taken = record {
    spelled = [];
    as_long = refl;
    count = omega arith;
    on = λ d e h. h;
    faulty = λ k h. h;
    taken = 0;
    passed = omega arith;
    at = λ j h. subst (FaultyField fs origin 0 ws) (omega arith) h;
  }

  -- the next word is paired with the field at its index
  pub word-next : (i : ℕ) (f : Field) (w : Word) (mid rest : List Word) (x : Octets)
      → slice_get fs i ≡ Some f → mid ≡ w ∷ rest → Taken fs (drop i fs) origin ws mid x
      → Taken fs (f ∷ drop (i + 1) fs) origin ws (w ∷ rest) x
  word-next i f w mid rest x at is t = grind (arith, next_field)

  -- as many words were taken as the index of the next field
  pub taken_is : (i : ℕ) (f : Field) (w : Word) (rest : List Word) (x : Octets)
      (t : Taken fs (f ∷ drop (i + 1) fs) origin ws (w ∷ rest) x) → i < length fs → t.taken ≡ i
  taken_is i f w rest x t within = omega (arith, length-drop (i + 1) fs)

  module _ (f : Field) (left : List Field) (w : Word) (rest : List Word) (x : Octets)
      (t : Taken fs (f ∷ left) origin ws (w ∷ rest) x) where
    -- if the next word does not spell its field, all words have its fault
    pub word-refused : ((d : Octets) → SaysWord f origin w d → ⊥)
        → FieldsFaultIs fs origin 0 ws (field_fault f)
    word-refused none = t.faulty (field_fault f) (inl (none, refl))

    pub word-at : ((d : Octets) → SaysWord f origin w d → ⊥)
        → FaultyField fs origin 0 ws (t.taken + 0)
    word-at none = t.at 0 (inl (none, refl))

    -- one more word was taken
    module _ (y : Octets) (a : Appends (canonical_octets f) (SaysWord f origin w) x y) where
      grown : length y ≡ length x + length a.spelled
      grown = ap length a.grown ∙ length-append x (canonical_octets f a.spelled)
          ∙ ap (λ k. length x + k) (length-canonical_octets f a.spelled)

      more : (k : ℕ) → MatchBool (nat_le (length x + length a.spelled) 65535)
          (FieldsFaultIs left origin (length x + length a.spelled) rest k) (k ≡ 5)
          → FieldsFaultIs fs origin 0 ws k
      more k h = t.faulty k (inr (a.spelled, a.said, h))

      pub word-taken : length y ≤ 65535 → Taken fs left origin ws rest y
      word-taken short = record {
        spelled = t.spelled ++ a.spelled;
        as_long = omega (arith, t.as_long, grown, length-append t.spelled a.spelled);
        count = omega (arith, t.count);
        on = λ d e h. rw a.grown (simp append_assoc (t.on (a.spelled ++ d)
            (canonical_octets f a.spelled ++ e) (a.spelled, d, e, refl, refl, a.said, h)));
        faulty = λ k h. more k (at_true _ _ (le-leb (length x + length a.spelled) 65535
            (omega (arith, grown, short)))
            (subst (λ n. FieldsFaultIs left origin n rest k) grown h));
        taken = t.taken + 1;
        passed = omega (arith, t.passed);
        at = λ j h. subst (FaultyField fs origin 0 ws) (omega arith)
            (t.at (1 + j) (inr (
              a.spelled,
              a.said,
              at_true _ _
                  (le-leb (length x + length a.spelled) 65535 (omega (arith, grown, short)))
                  (j, subst (λ n. FaultyField left origin n rest j) grown h, refl),
            )));
      }

      pub long-at : 65535 < length y → FaultyField fs origin 0 ws (t.taken + 0)
      long-at over = t.at 0 (inr (
        a.spelled,
        a.said,
        at_false _ _ (lt-leb (length x + length a.spelled) 65535
            (omega (arith, grown, over))) refl,
      ))

      -- if the octets of the next word make the data too long, all words have fault 5, `BadString`
      pub too-long : 65535 < length y → FieldsFaultIs fs origin 0 ws 5
      too-long over = more 5 (at_false _ _ (lt-leb (length x + length a.spelled) 65535
          (omega (arith, grown, over))) refl)
