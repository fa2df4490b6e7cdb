-- What is at an offset, and what follows it, determine what is spelled from there on.
use Rattle.dns_wire.proofs.Common.{◌≡◌, ℕ, ◌+◌, ◌<◌, true, [], ◌∷◌, ◌++◌, length, take, drop, slice_get, Some, refl, sym, ap, ◌∙◌, subst, arith, drop_at, take-append-drop, length-append, and_parts, length-take-le, same_Some, list_all, Octets, DomainName, wire, is_name, is_label, RunAt, ends, goes_on, jumps, Stands, run_written, LabelAt, PointerAt, SpelledFrom, SpellsSuffix, HasAt}
use Rattle.dns_wire.proofs.Runs.{GoesOn, at_end, at_label, at_pointer, goes_on_at}
use Rattle.dns_wire.proofs.SuffixLemmas.{next_label}

-- only the root has a wire form of one octet
pub root_alone : (m : DomainName) → length (wire m) ≡ 1 → wire m ≡ 0 ∷ []
root_alone [] h = refl
root_alone (l ∷ []) h = absurd (omega (arith, h, length-append l (wire [])))
root_alone (l ∷ k ∷ m) h = absurd (omega (arith, h, length-append l (wire (k ∷ m))))

-- the root's length ends a name
pub spelled_end : {b : Octets} {s i : ℕ} {o : Octets} → slice_get b i ≡ Some 0
    → (o ≡ 0 ∷ [] → SpelledFrom b s i o) × (SpelledFrom b s i o → o ≡ 0 ∷ [])
spelled_end {b} {s} {i} {o} root =
    (λ e. ([], i + 1, ends i root, sym e), λ h. back h.0 h.1 h.3 (goes_on_at h.2))
  where
    back : (n : DomainName) (e : ℕ) → wire n ≡ o → GoesOn b s i n e → o ≡ 0 ∷ []
    back n e w (at_end there none end) = sym w ∙ ap wire none
    back n e w (at_label l m there shape rest) = absurd (grind (arith, same_Some))
    back n e w (at_pointer p d there end rest) = absurd (grind (arith, same_Some))

-- octets are spelled from a label on if and only if they are the label, followed by what is spelled
-- after it
pub spelled_label : {b : Octets} {s i : ℕ} {o after : Octets} (l : Octets) → LabelAt b i l → o
    ≡ length l ∷ (l ++ after) → (SpelledFrom b s (i + (1 + length l)) after → SpelledFrom b s i o)
    × (SpelledFrom b s i o → SpelledFrom b s (i + (1 + length l)) after)
spelled_label {b} {s} {i} {o} {after} l there is = (forth, λ h. back h.0 h.1 h.3 (goes_on_at h.2))
  where
    next : i + (1 + length l) ≡ i + 1 + length l
    next = omega arith

    forth : SpelledFrom b s (i + (1 + length l)) after → SpelledFrom b s i o
    forth h = (
      l ∷ h.0,
      h.1,
      goes_on i (length l) l h.0 h.1 there.length_there there.some
          there.short there.within there.label (subst (λ j. RunAt b s j h.0 h.1) next h.2),
      ap (λ z. length l ∷ (l ++ z)) h.3 ∙ sym is,
    )

    back : (n : DomainName) (e : ℕ)
        → wire n ≡ o → GoesOn b s i n e → SpelledFrom b s (i + (1 + length l)) after
    back n e w (at_end root none end) = absurd (grind (arith, same_Some))
    back n e w (at_label k m label shape run) =
        let long : length k ≡ length l =
        same_Some (length k) (length l) (sym label.length_there ∙ there.length_there) in
        let same : k ≡ l = label.label ∙ ap (λ j. take j (drop (i + 1) b)) long ∙ sym there.label in
        let whole : l ++ wire m ≡ l ++ after = ap (drop 1)
        (sym (ap (λ x. length x ∷ (x ++ wire m)) same) ∙ sym (ap wire shape) ∙ w ∙ is) in (
          m,
          e,
          subst (λ j. RunAt b s j m e) (ap (λ j. i + 1 + j) long ∙ sym next) run,
          sym (drop_at l (wire m) (length l) refl)
              ∙ ap (drop (length l)) whole ∙ drop_at l after (length l) refl,
        )
    back n e w (at_pointer p d pointer end run) = absurd (grind (arith, same_Some))

-- a pointer spells what its target spells
pub spelled_jump : {b : Octets} {s i p : ℕ} {o : Octets} → PointerAt b s i p
    → (SpelledFrom b p p o → SpelledFrom b s i o) × (SpelledFrom b s i o → SpelledFrom b p p o)
spelled_jump {b} {s} {i} {p} {o} there = (forth, λ h. back h.0 h.1 h.3 (goes_on_at h.2))
  where
    forth : SpelledFrom b p p o → SpelledFrom b s i o
    forth h = (
      h.0,
      i + 2,
      jumps i there.first there.second p h.0 h.1 there.first_there
          there.high there.second_there there.offset there.after_header there.before_run h.2,
      h.3,
    )

    back : (n : DomainName) (e : ℕ) → wire n ≡ o → GoesOn b s i n e → SpelledFrom b p p o
    back n e w (at_end root none end) = absurd (grind (arith, same_Some))
    back n e w (at_label k m label shape run) = absurd (grind (arith, same_Some))
    back n e w (at_pointer q d pointer end run) = grind arith

stands_at : {b o : Octets} {p : ℕ} → HasAt b p o → Stands b p o
stands_at {b} {o} {p} has = record {
  before = take p b;
  after = drop (length o) (drop p b);
  whole = sym (take-append-drop p b) ∙ ap (λ z. take p b ++ z) (sym
      (take-append-drop (length o) (drop p b)) ∙ ap (λ z. z ++ drop (length o) (drop p b)) has.1);
  place = length-take-le p b has.0;
}

-- a name whose wire form is in a message at an offset is spelled there
pub spelled_whole : {b o : Octets} {p : ℕ} → HasAt b p o → SpellsSuffix b p o
spelled_whole {b} {o} {p} has n e ok = (
  n,
  p + length (wire n),
  run_written n
      (and_parts (list_all is_label n) _ ok).0 (subst (Stands b p) e (stands_at has)),
  sym e,
)

-- the octets after the first label of a name are the octets of a name
pub named_after : {o : Octets} (l after : Octets)
    → 0 < length l → o ≡ length l ∷ (l ++ after) → (n : DomainName)
    → o ≡ wire n → is_name n ≡ true → (m : DomainName) × (after ≡ wire m) × (is_name m ≡ true)
named_after {o} l after some is n e ok =
    let f = next_label n e ok (record {
      others = l ++ after;
      first = is;
      some = λ none. omega (arith, none, some);
      fits = omega (arith, length-append l after);
      cut = sym (drop_at l after (length l) refl);
    }) in
    (f.labels, f.spelled, f.is_name)
