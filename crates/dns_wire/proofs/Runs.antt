-- What is at an offset in a run of labels determines how the run continues.
use Rattle.dns_spec.specs.MessageFaults.{RunFault, NameFault, step_fault, stopped, too_long, labelled, pointed}
use Rattle.dns_wire.specs.declared.wire_fault.WireFault.{WireFault}
use Rattle.dns_wire.specs.WireFault.{fault_code}
use Rattle.dns_wire.proofs.Common.{pointer_place, ◌≡◌, ℕ, ◌+◌, ◌<◌, ◌≤◌, true, IfSome, [], ◌∷◌, ◌++◌, length, take, drop, get_or, slice_get, Option, Some, refl, sym, ap, ◌∙◌, subst, arith, false, append_assoc, append-nil, length-append, same_Some, slice_get_within, slice_get-get_or, Octets, DomainName, wire, is_name, RunAt, NameAt, ends, goes_on, jumps, length-take-le, length-drop, LabelAt, PointerAt, NoRunAt, name_at, name_at_computes, name_computed, None}
use Rattle.std.specs.Option.{unwrap_or}
use Rattle.std.specs.Prelude.{IsTrue}

-- the offset after a name's own octets: `end` if a pointer was followed already, else e
abbrev pub end_or : Option ℕ → ℕ → ℕ
end_or end e = unwrap_or end e

-- The invariant of reading a name from offset `at`: the labels so far, followed by what the current
-- run spells from offset i on, are what the message spells at offset `at`, and it spells nothing
-- else there; and a fault from offset i on is the name's fault.
pub record IsReading (b : Octets) (at : ℕ) (n : DomainName) (s i : ℕ)
    (end : Option ℕ) : Type 0 where
  pub is_name : IsTrue (is_name n)
  pub end_within : IfSome end (λ e. e ≤ length b)
  pub forth : (m : DomainName) (e : ℕ) → RunAt b s i m e → RunAt b at at (n ++ m) (end_or end e)
  pub faults : (f : ℕ) → RunFault b n s i f → NameFault b at f
  pub back : (w : DomainName) (f : ℕ) → RunAt b at at w f
      → (m : DomainName) × (e : ℕ) × RunAt b s i m e × (w ≡ n ++ m) × (f ≡ end_or end e)

-- nothing is read yet
pub reading_begins : (b : Octets) (at : ℕ) → IsReading b at [] at at None
reading_begins b at = record {
  is_name = refl;
  end_within = tt;
  forth = λ m e run. run;
  faults = λ f fault. fault;
  back = λ w f run. (w, f, run, refl, refl);
}

-- how a run continues from offset i: with its end, a label, or a pointer
pub data GoesOn (b : Octets) (s i : ℕ) (n : DomainName) (e : ℕ) : Type 0 where
  at_end : slice_get b i ≡ Some 0 → n ≡ [] → e ≡ i + 1 → GoesOn b s i n e
  at_label : (l : Octets) (m : DomainName)
      → LabelAt b i l → n ≡ l ∷ m → RunAt b s (i + 1 + length l) m e → GoesOn b s i n e
  at_pointer : (p d : ℕ) → PointerAt b s i p → e ≡ i + 2 → RunAt b p p n d → GoesOn b s i n e

pub label_there : {b l : Octets} {i k : ℕ} → slice_get b i ≡ Some k → 0 < k
    → k < 64 → i + 1 + k ≤ length b → l ≡ take k (drop (i + 1) b) → (length l ≡ k) × LabelAt b i l
label_there {b} {l} {i} {k} at some short within is = grind (arith, length-take-le, length-drop)

pub pointer_there : {b : Octets} {s i o o' p : ℕ} → slice_get b i ≡ Some o → 192 ≤ o
    → slice_get b (i + 1) ≡ Some o' → p ≡ pointer_place o o' → 12 ≤ p → p < s
    → PointerAt b s i p
pointer_there {o = o} {o' = o'} at high at' is from before = record {
  first = o;
  second = o';
  first_there = at;
  high = high;
  second_there = at';
  offset = is;
  after_header = from;
  before_run = before;
}

pub goes_on_at : {b : Octets} {s i e : ℕ} {n : DomainName} → RunAt b s i n e → GoesOn b s i n e
goes_on_at (ends i at) = at_end at refl refl
goes_on_at {b} {s} (goes_on i k l n e at some short within is rest) =
    let there = label_there at some short within is in
    at_label l n there.1 refl (subst (λ j. RunAt b s (i + 1 + j) n e) (sym there.0) rest)
goes_on_at (jumps i o o' p n e at high at' is from before rest) =
    at_pointer p e (pointer_there at high at' is from before) refl rest

pub there_is : (b : Octets) (i k : ℕ) → i < length b → get_or b i 0 ≡ k → slice_get b i ≡ Some k
there_is b i k inside e = slice_get-get_or b i 0 inside ∙ ap Some e

-- a label follows its length
pub label_stands : (b l : Octets) (i k : ℕ) → i < length b → get_or b i 0 ≡ k
    → 0 < k → k < 64 → k ≤ length (drop (i + 1) b) → l ≡ take k (drop (i + 1) b) → LabelAt b i l
label_stands b l i k inside e some short within is = (label_there (there_is b i k inside e)
    some short (omega (arith, inside, within, length-drop (i + 1) b)) is).1

-- a run goes on within the octets
pub run_inside : {b : Octets} {s i e : ℕ} {n : DomainName} → RunAt b s i n e → i < length b
run_inside {b} (ends i at) = slice_get_within b i 0 at
run_inside {b} (goes_on i k l n e at some short within is rest) = slice_get_within b i k at
run_inside {b} (jumps i o o' p n e at high at' is from before rest) = slice_get_within b i o at

-- no pointer leads to an offset between the header and a run that begins after it
pub no_pointer : (b : Octets) (i k : ℕ)
    → i < length b → get_or b i 0 ≡ k → 64 ≤ k → NoRunAt b 12 i
no_pointer b i k inside is high n e run = grind (arith, there_is)

-- what the octet at an offset determines about the run
module _ (b : Octets) (s i k : ℕ) (inside : i < length b) (is : get_or b i 0 ≡ k) where
  pub no_label : 0 < k → k < 64 → length (drop (i + 1) b) < k → NoRunAt b s i
  no_label some short past n e run = grind (arith, there_is, length-drop)

-- a prefix of a name is not longer than the name
pub length-wire-front : (n m : DomainName) → length (wire n) ≤ length (wire (n ++ m))
length-wire-front [] [] = omega arith
length-wire-front [] (l ∷ m) = omega arith
length-wire-front (l ∷ n) m = grind (arith, length-append, (length-wire-front n m))

-- at the root's length, the labels so far are the name
pub reading_ends : {b : Octets} {at s i : ℕ} {n : DomainName} {end : Option ℕ}
    → IsReading b at n s i end → slice_get b i ≡ Some 0 → name_at b at ≡ Some (n, end_or end (i + 1))
reading_ends {b} {at} {s} {i} {n} {end} reading root = name_computed b at n (end_or end (i + 1)) (
  subst (λ m. RunAt b at at m (end_or end (i + 1)))
      (append-nil n) (reading.forth [] (i + 1) (ends i root)),
  reading.is_name,
)

-- no name is read where none is spelled
no_name : (b : Octets) (i : ℕ) → ((n : DomainName) (e : ℕ) → NameAt b i n e → ⊥)
    → name_at b i ≡ None
no_name b i none = go (name_at b i) refl
  where
    go : (x : Option (DomainName × ℕ)) → name_at b i ≡ x → name_at b i ≡ None
    go None is = is
    go (Some (n, e)) is = absurd (none n e ((name_at_computes b i n e).0 is))

pub reading_stops : {b : Octets} {at s i : ℕ} {n : DomainName} {end : Option ℕ}
    → IsReading b at n s i end → NoRunAt b s i → name_at b at ≡ None
reading_stops {b} {at} reading none =
    no_name b at (λ w f name. let r = reading.back w f name.0 in none r.0 r.1 r.2)

-- one more label is read
pub reading_label : {b : Octets} {at s i : ℕ} {n : DomainName} {end : Option ℕ} (l : Octets)
    → IsReading b at n s i end → LabelAt b i l
    → is_name (n ++ l ∷ []) ≡ true → IsReading b at (n ++ l ∷ []) s (i + (1 + length l)) end
reading_label {b} {at} {s} {i} {n} {end} l reading there ok = record {
  is_name = ok;
  end_within = reading.end_within;
  faults = λ f fault. reading.faults f (labelled i (length l) l f there.length_there there.some
      there.short there.within there.label ok (subst (λ j. RunFault b (n ++ l ∷ []) s j f) next
      fault));
  forth = λ m e run. subst (λ w. RunAt b at at w (end_or end e)) (sym (append_assoc n (l ∷ []) m))
      (reading.forth (l ∷ m) e (goes_on i (length l) l m e there.length_there
      there.some there.short there.within there.label (subst (λ j. RunAt b s j m e) next run)));
  back = λ w f run. let r = reading.back w f run in go w f r.0 r.1 r.3 r.4 (goes_on_at r.2);
}
  where
    next : i + (1 + length l) ≡ i + 1 + length l
    next = omega arith

    go : (w : DomainName) (f : ℕ) (m : DomainName) (e : ℕ)
        → w ≡ n ++ m → f ≡ end_or end e → GoesOn b s i m e → (m : DomainName) × (e : ℕ)
        × RunAt b s (i + (1 + length l)) m e × (w ≡ (n ++ l ∷ []) ++ m) × (f ≡ end_or end e)
    go w f m e p q (at_end root none end) = absurd (grind (arith, same_Some))
    go w f m e p q (at_label k rest label shape run) = grind (arith, same_Some, append_assoc, next)
    go w f m e p q (at_pointer offset d pointer end run) = grind arith

-- if the next label makes the name too long, there is no name
pub label_too_long : {b : Octets} {at s i : ℕ} {n : DomainName} {end : Option ℕ} (l : Octets)
    → IsReading b at n s i end → LabelAt b i l → 255 < length (wire (n ++ l ∷ []))
    → name_at b at ≡ None
label_too_long {b} {at} {s} {i} {n} {end} l reading there long =
    no_name b at (λ w f name.
    let r = reading.back w f name.0 in go w name.1 r.0 r.1 r.3 (goes_on_at r.2))
  where
    go : (w : DomainName) → is_name w ≡ true → (m : DomainName) (e : ℕ)
        → w ≡ n ++ m → GoesOn b s i m e → ⊥
    go w short m e p (at_end root none end) = grind (arith, same_Some)
    go w short m e p (at_label k rest label shape run) =
        let as_long : length l ≡ length k =
        same_Some (length l) (length k) (sym there.length_there ∙ label.length_there) in
        let same : k ≡ l =
        label.label ∙ ap (λ j. take j (drop (i + 1) b)) (sym as_long) ∙ sym there.label in
        let whole : w ≡ (n ++ l ∷ []) ++ rest = p ∙ ap
        (λ x. n ++ x) (shape ∙ ap (λ x. x ∷ rest) same) ∙ sym (append_assoc n (l ∷ []) rest) in
        grind (arith, wire, length-wire-front)
    go w short m e p (at_pointer offset d pointer end run) = grind arith

pub end_fits : (b : Octets) (x : Option ℕ) (e : ℕ)
    → IfSome x (λ y. y ≤ length b) → e ≤ length b → end_or x e ≤ length b
end_fits b x e h h1 = grind arith

-- a pointer is followed
pub reading_jumps : {b : Octets} {at s i p : ℕ} {n : DomainName} {end : Option ℕ} → IsReading b at
    n s i end → PointerAt b s i p → s ≤ length b → IsReading b at n p p (Some (end_or end (i + 2)))
reading_jumps {b} {at} {s} {i} {p} {n} {end} reading there inside = record {
  is_name = reading.is_name;
  end_within = end_fits b end (i + 2) reading.end_within
      (omega (arith, slice_get_within b (i + 1) there.second there.second_there));
  faults = λ f fault. reading.faults f (pointed i there.first there.second p f there.first_there
      there.high there.second_there there.offset there.after_header there.before_run fault);
  forth =
      λ m e run. reading.forth m (i + 2) (jumps i there.first there.second p m e there.first_there
      there.high there.second_there there.offset there.after_header there.before_run run);
  back = λ w f run. let r = reading.back w f run in go w f r.0 r.1 r.3 r.4 (goes_on_at r.2);
}
  where
    go : (w : DomainName) (f : ℕ) (m : DomainName) (e : ℕ)
        → w ≡ n ++ m → f ≡ end_or end e → GoesOn b s i m e
        → (m : DomainName) × (e : ℕ) × RunAt b p p m e × (w ≡ n ++ m) × (f ≡ end_or end (i + 2))
    go w f m e q r (at_end root none is) = absurd (grind (arith, same_Some))
    go w f m e q r (at_label k rest label shape run) = grind arith
    go w f m e q r (at_pointer offset d pointer is run) = grind arith

-- a fault has a number, which is the name's fault if it is found at the next step
code_some : (fault : WireFault) → 0 < fault_code fault
code_some fault = grind arith

pub reading_stopped : {b : Octets} {at s i : ℕ} {n : DomainName} {end : Option ℕ}
    → IsReading b at n s i end → (fault : WireFault)
    → step_fault b s i (slice_get b i) ≡ fault_code fault → NameFault b at (fault_code fault)
reading_stopped {i = i} reading fault is =
    reading.faults (fault_code fault) (stopped i (fault_code fault) is (code_some fault))

pub reading_too_long : {b : Octets} {at s i : ℕ} {n : DomainName} {end : Option ℕ} (l : Octets)
    → IsReading b at n s i end → LabelAt b i l → is_name (n ++ l ∷ []) ≡ false → NameFault b at 4
reading_too_long {i = i} l reading there long =
    reading.faults 4 (too_long i (length l) l there.length_there there.some there.short there.within
    there.label long)
