-- The offset found for a suffix is the offset at which it is shared, and the offsets kept of a name
-- are exactly those that later names may share.
use Rattle.dns_wire.proofs.Common.{◌≡◌, ℕ, ◌+◌, ◌-◌, ◌*◌, ◌<◌, ◌≤◌, true, cond, nat_le, List, [], ◌∷◌, ◌++◌, length, take, drop, get_or, Option, None, Some, refl, sym, ap, ap₂, ◌∙◌, subst, arith, append_assoc, append-nil, length-append, drop_at, le-leb, lt-leb, same_Some, Octets, DomainName, wire, is_name, RunAt, Placed, last_place, shared_place, ends, goes_on, jumps, length-drop, label_parts, is_name-tail, is_label-head, wire-injective, pointer_place, Kept, HasOffset, SpelledAt, SpellsSuffix, NoneSpelled, AfterLabel, front_size, pointed_offset, new_offsets, Holds, Follows}
use Rattle.dns_wire.proofs.Runs.{GoesOn, at_end, at_label, at_pointer, goes_on_at}

-- how a name is laid out, depending on the offset at which the whole name is shared, if it is
-- shared
module _ (ms : List Placed)
    (l : Octets) (n : DomainName) {x : Option ℕ} (is : shared_place ms (l ∷ n) ≡ x) where
  pub front-as : front_size ms
      (l ∷ n) ≡ elim x as (λ _. ℕ) [ None ↦ 1 + length l + front_size ms n | Some p ↦ 0 ]
  unfolding front_size
  front-as = grind (arith, ℕ, None, front_size, Some)

  pub pointed-as : pointed_offset ms
      (l ∷ n) ≡ elim x as (λ _. Option ℕ) [ None ↦ pointed_offset ms n | Some p ↦ Some p ]
  unfolding pointed_offset
  pointed-as = grind (arith, Option, ℕ, None, pointed_offset, Some)

pub front-root : (ms : List Placed) → front_size ms [] ≡ 0
unfolding front_size
front-root ms = refl

pub pointed-root : (ms : List Placed) → pointed_offset ms [] ≡ None
unfolding pointed_offset
pointed-root ms = refl

-- an offset of a message spells at most one name
one_from : {b : Octets} {s i e f : ℕ} {n m : DomainName}
    → RunAt b s i n e → GoesOn b s i m f → n ≡ m
one_from (ends i at) (at_end root none end) = sym none
one_from (ends i at) (at_label l m there shape run) = absurd (grind (arith, same_Some))
one_from (ends i at) (at_pointer q d there end run) = absurd (grind (arith, same_Some))
one_from (goes_on i k l n e at some short within is rest) (at_end root none end) =
    absurd (omega (arith, same_Some k 0 (sym at ∙ root), some))
one_from {b}
    {s} {f = f} (goes_on i k l n e at some short within is rest) (at_label l' m there shape run) =
    let long : length l' ≡ k = same_Some (length l') k (sym there.length_there ∙ at) in
    let same : l ≡ l' = is ∙ ap (λ j. take j (drop (i + 1) b)) (sym long) ∙ sym there.label in
    ap₂ (λ x y. x ∷ y) same
    (one_from rest (goes_on_at (subst (λ j. RunAt b s (i + 1 + j) m f) long run))) ∙ sym shape
one_from (goes_on i k l n e at some short within is rest) (at_pointer q d there end run) =
    absurd (grind (arith, same_Some))
one_from (jumps i o o' p n e at high at' is from before rest) (at_end root none end) =
    absurd (omega (arith, same_Some o 0 (sym at ∙ root), high))
one_from (jumps i o o' p n e at high at' is from before rest) (at_label l m there shape run) =
    absurd (grind (arith, same_Some))
one_from {b}
    {m = m} (jumps i o o' p n e at high at' is from before rest) (at_pointer q d there end run) =
    let one = same_Some there.first o (sym there.first_there ∙ at) in
    let two = same_Some there.second o' (sym there.second_there ∙ at') in
    let same : q ≡ p = there.offset ∙ ap₂ pointer_place one two ∙ sym is in
    one_from rest (goes_on_at (subst (λ j. RunAt b j j m d) same run))

pub one_run : {b : Octets} {s i e f : ℕ} {n m : DomainName}
    → RunAt b s i n e → RunAt b s i m f → n ≡ m
one_run h g = one_from h (goes_on_at g)

-- a name that the message spells at a kept offset is not the root, and is shared at that offset
pub record FoundAt (ms : List Placed) (n : DomainName) (p : ℕ) : Type 0 where
  pub label : Octets
  pub labels : DomainName
  pub whole : n ≡ label ∷ labels
  pub shared : shared_place ms (label ∷ labels) ≡ Some p

pub found : {head : Octets → ℕ}
    {ms : List Placed} {b : Octets} {ks : List Kept} {p : ℕ} (n : DomainName) → Holds head ms b ks
    → is_name n ≡ true → HasOffset ks p → SpelledAt b p (wire n) → FoundAt ms n p
found {head} {ms} {b} {ks} {p} n holds ok kept there =
    let s = holds.answers.sound p kept.0 kept.1 in
    let run = (holds.spelled s.0 s.1 p s.2).3 in
    let same : there.0 ≡ s.0 ∷ s.1 = one_run there.2 run in
    record {
      label = s.0;
      labels = s.1;
      whole = sym (wire-injective (s.0 ∷ s.1) n s.3 ok (sym (ap wire same) ∙ there.3));
      shared = s.2;
    }

-- if the name is spelled at no kept offset, it is shared at no offset
pub not_found : {head : Octets → ℕ} {ms : List Placed}
    {b : Octets} {ks : List Kept} (l : Octets) (n : DomainName) → Holds head ms b ks
    → NoneSpelled ks (head (wire (l ∷ n))) b (wire (l ∷ n)) → shared_place ms (l ∷ n) ≡ None
not_found {head} {ms} {b} {ks} l n holds none = go (shared_place ms (l ∷ n)) refl
  where
    go : (x : Option ℕ) → shared_place ms (l ∷ n) ≡ x → shared_place ms (l ∷ n) ≡ None
    go None e = e
    go (Some p) e =
        let s = holds.spelled l n p e in
        absurd (none p (holds.answers.complete l n p e) (l ∷ n, s.2, s.3, refl))

-- The part of a name that is left to compare: a suffix whose layout ends the layout of the whole.
pub record LeftOf (ms : List Placed) (name rest : Octets) (n : DomainName) : Type 0 where
  pub left : DomainName
  pub spelled : rest ≡ wire left
  pub is_name : is_name left ≡ true
  pub front : front_size ms n + length rest ≡ length name + front_size ms left
  pub offset : pointed_offset ms n ≡ pointed_offset ms left

pub record Left
    (head : Octets → ℕ) (b : Octets) (ks : List Kept) (name rest : Octets) : Type 0 where
  pub shorter : length rest ≤ length name
  pub all : (ms : List Placed) (n : DomainName)
      → Holds head ms b ks → name ≡ wire n → is_name n ≡ true → LeftOf ms name rest n

-- the first label of the part that is left, and what follows the label
pub record NextLabel (left : DomainName) (rest after : Octets) (k : ℕ) : Type 0 where
  pub label : Octets
  pub labels : DomainName
  pub whole : left ≡ label ∷ labels
  pub long : k ≡ length label
  pub before : rest ≡ wire (label ∷ labels)
  pub spelled : after ≡ wire labels
  pub is_name : is_name labels ≡ true

pub next_label : {rest after : Octets} {k : ℕ} (left : DomainName)
    → rest ≡ wire left → is_name left ≡ true → AfterLabel rest k after → NextLabel left rest after k
next_label [] e ok a = absurd (a.some (ap (λ x. get_or x 0 0) (sym a.first ∙ e)))
next_label {k = k} (l ∷ n) e ok a = grind (arith, drop_at, is_name-tail)

pub left_label : {head : Octets → ℕ}
    {b : Octets} {ks : List Kept} {name rest after : Octets} (k : ℕ) → Left head b ks name rest
    → AfterLabel rest k after → NoneSpelled ks (head rest) b rest → Left head b ks name after
left_label {head} {b} {ks} {name} {rest} {after} k left a none = record {
  shorter = let s =
      left.shorter in omega (arith, s, ap length a.first, ap length a.cut, length-drop k a.others);
  all = λ ms n holds e ok.
      let x = left.all ms n holds e ok in
      let f = next_label x.left x.spelled x.is_name a in
      let out = not_found f.label f.labels holds
      (subst (λ o. NoneSpelled ks (head o) b o) f.before none) in
      let front = x.front in
      record {
        left = f.labels;
        spelled = f.spelled;
        is_name = f.is_name;
        front = omega (
          arith,
          front,
          ap (front_size ms) f.whole,
          front-as ms f.label f.labels out,
          ap length f.before,
          ap length f.spelled,
          length-append f.label (wire f.labels),
        );
        offset = x.offset ∙ ap (pointed_offset ms) f.whole ∙ pointed-as ms f.label f.labels out;
      };
}

-- if nothing is left to compare, the name is written whole; if a suffix is found, only the labels
-- before it are
pub left_root : {head : Octets → ℕ} {b : Octets} {ks : List Kept} {name rest : Octets}
    (ms : List Placed) (n : DomainName) → Left head b ks name rest → ((m : DomainName)
    → rest ≡ wire m → is_name m ≡ true → m ≡ []) → Holds head ms b ks → name ≡ wire n
    → is_name n ≡ true → (front_size ms n ≡ length name - length rest) × (pointed_offset ms n
    ≡ None)
left_root ms n left root holds e ok =
    let a = left.all ms n holds e ok in
    let none = root a.left a.spelled a.is_name in
    grind (arith, front-root, pointed-root)

pub left_found : {head : Octets → ℕ} {b : Octets} {ks : List Kept}
    {name rest : Octets} (p : ℕ) (ms : List Placed) (n : DomainName) → Left head b ks name rest
    → HasOffset ks p → SpellsSuffix b p rest → Holds head ms b ks → name ≡ wire n → is_name n ≡ true
    → (front_size ms n ≡ length name - length rest) × (pointed_offset ms n ≡ Some p)
left_found {b = b} {name = name} {rest} p ms n left kept there holds e ok =
    let a = left.all ms n holds e ok in
    let f = found a.left holds a.is_name kept
    (subst (SpelledAt b p) a.spelled (there a.left a.spelled a.is_name)) in
    let front = a.front in (
      omega (arith, front, ap (front_size ms) f.whole, front-as ms f.label f.labels f.shared),
      a.offset ∙ ap (pointed_offset ms) f.whole ∙ pointed-as ms f.label f.labels f.shared,
    )

-- the offsets that are kept of a name, by the offset at which the whole name is shared, if any
module _ (head : Octets → ℕ) (ms : List Placed) (l : Octets) (n : DomainName) (p : ℕ) where
  abbrev kept_by : Option ℕ → List Kept
  kept_by None = cond (nat_le p last_place) (record
      { offset = p; number = head (wire (l ∷ n)) } ∷ new_offsets head ms n (p + 1 + length l)) []
  kept_by (Some q) = []

  pub kept-as : {x : Option ℕ}
      → shared_place ms (l ∷ n) ≡ x → new_offsets head ms (l ∷ n) p ≡ kept_by x
  unfolding new_offsets
  kept-as e = ap kept_by e

  pub kept-more : shared_place ms (l ∷ n) ≡ None → p ≤ last_place → new_offsets head ms (l ∷ n) p
      ≡ record { offset = p; number = head (wire (l ∷ n)) } ∷ new_offsets head ms n (p + 1 + length
      l)
  kept-more e low = kept-as e ∙ ap (λ t. cond t (record { offset = p; number = head (wire (l ∷ n)) }
      ∷ new_offsets head ms n (p + 1 + length l)) []) (le-leb p last_place low)

  -- nothing is kept after a shared suffix
  pub kept-shared : front_size ms (l ∷ n) < 1 + length l → new_offsets head ms (l ∷ n) p ≡ []
  unfolding new_offsets front_size
  kept-shared short = grind (arith, new_offsets, front_size)

pub kept-root : (head : Octets → ℕ) (ms : List Placed) (p : ℕ) → new_offsets head ms [] p ≡ []
unfolding new_offsets
kept-root head ms p = refl

-- nothing is kept beyond the reach of a pointer
pub kept-high : (head : Octets → ℕ) (ms : List Placed) (n : DomainName) (p : ℕ) → last_place < p
    → new_offsets head ms n p ≡ []
unfolding new_offsets
kept-high head ms [] p high = refl
kept-high head ms (l ∷ n) p high = grind (arith, new_offsets, lt-leb)

-- The part of a name whose offsets are left to keep.
pub record KeepOf (head : Octets → ℕ) (ms : List Placed)
    (old ks : List Kept) (rest : Octets) (front at offset : ℕ) (n : DomainName) : Type 0 where
  pub left : DomainName
  pub spelled : rest ≡ wire left
  pub is_name : is_name left ≡ true
  pub kept : old ++ new_offsets head ms n at ≡ ks ++ new_offsets head ms left offset
  pub fits : offset + front_size ms left ≡ at + front

pub record Keep (head : Octets → ℕ)
    (old ks : List Kept) (name rest : Octets) (front at offset : ℕ) : Type 0 where
  pub few : 2 * length ks ≤ offset
  pub within : offset ≤ at + front
  pub all : (ms : List Placed) (n : DomainName) → name ≡ wire n
      → is_name n ≡ true → front ≡ front_size ms n → KeepOf head ms old ks rest front at offset n

pub keep_begins : (head : Octets → ℕ) (old : List Kept) (name : Octets) (front at : ℕ)
    → 2 * length old ≤ at → Keep head old old name name front at at
keep_begins head old name front at few = grind arith

pub keep_label : {head : Octets → ℕ} {old ks : List Kept} {name rest after : Octets}
    {front at offset : ℕ} (k h : ℕ) → Keep head old ks name rest front at offset → AfterLabel
    rest k after → offset + 1 + k ≤ at + front → offset ≤ last_place → h ≡ head rest → Keep head old
    (ks ++ record { offset = offset; number = h } ∷ []) name after front at (offset + 1 + k)
unfolding new_offsets front_size
keep_label {head} {old} {ks} {offset = offset} k h keep a room low number = record {
  few = grind (arith, keep.few, a.some, length-append);
  within = room;
  all = λ ms n e ok f.
      let x = keep.all ms n e ok f in
      let g = next_label x.left x.spelled x.is_name a in
      record {
        left = g.labels;
        spelled = g.spelled;
        is_name = g.is_name;
        kept = grind (arith, new_offsets, front_size, le-leb, append_assoc);
        fits = grind (arith, front_size);
      };
}

-- when the loop ends, nothing is left to keep
pub keep_root : {head : Octets → ℕ} {old ks : List Kept} {name rest : Octets} {front at offset : ℕ}
    → Keep head old ks name rest front at offset → ((m : DomainName) → rest ≡ wire m
    → is_name m ≡ true → m ≡ []) → (ms : List Placed) (n : DomainName) → name ≡ wire n
    → is_name n ≡ true → front ≡ front_size ms n → ks ≡ old ++ new_offsets head ms n at
keep_root {head} {old} {ks} {offset = offset} keep root ms n e ok f =
    grind (arith, kept-root, append-nil)

pub keep_high : {head : Octets → ℕ} {old ks : List Kept} {name rest : Octets} {front at offset : ℕ}
    → Keep head old ks name rest front at offset
    → last_place < offset → (ms : List Placed) (n : DomainName) → name ≡ wire n
    → is_name n ≡ true → front ≡ front_size ms n → ks ≡ old ++ new_offsets head ms n at
keep_high {head} {old} {ks} {offset = offset} keep high ms n e ok f =
    let a = keep.all ms n e ok f in
    sym (a.kept ∙ ap (λ x. ks ++ x) (kept-high head ms a.left offset high) ∙ append-nil ks)

pub keep_past : {head : Octets → ℕ} {old ks : List Kept} {name rest after : Octets}
    {front at offset : ℕ} (k : ℕ) → Keep head old ks name rest front at offset → AfterLabel
    rest k after → at + front < offset + 1 + k → (ms : List Placed) (n : DomainName) → name ≡ wire n
    → is_name n ≡ true → front ≡ front_size ms n → ks ≡ old ++ new_offsets head ms n at
keep_past {head} {old} {ks} {offset = offset} k keep a past ms n e ok f =
    let x = keep.all ms n e ok f in
    let g = next_label x.left x.spelled x.is_name a in
    grind (arith, kept-shared, append-nil)

-- no offset is kept of a name that is only a pointer
pub keep_none : (head : Octets → ℕ) (ms : List Placed) (n : DomainName) (at : ℕ) (ks : List Kept)
    → front_size ms n ≡ 0 → ks ≡ ks ++ new_offsets head ms n at
keep_none head ms [] at ks none = grind (arith, append-nil, kept-root)
keep_none head ms (l ∷ n) at ks none = grind (arith, append-nil, kept-shared)

pub keep_end : {head : Octets → ℕ} {old ks : List Kept} {name rest : Octets} {front at offset : ℕ}
    → Keep head old ks name rest front at offset
    → at + front ≤ offset → (ms : List Placed) (n : DomainName) → name ≡ wire n
    → is_name n ≡ true → front ≡ front_size ms n → ks ≡ old ++ new_offsets head ms n at
keep_end {head} {old} {ks} {offset = offset} keep end ms n e ok f = grind (arith, keep_none)

-- octets without a first label are only the root's wire form
pub root_empty : (o : Octets) (n : DomainName) → o ≡ wire n → length o ≡ 0 → n ≡ []
root_empty o [] e none = refl
root_empty o (l ∷ n) e none = absurd (omega (arith, ap length e, none))

pub root_zero : (o others : Octets) (n : DomainName)
    → o ≡ wire n → is_name n ≡ true → o ≡ 0 ∷ others → n ≡ []
root_zero o others [] e ok first = refl
root_zero o others (l ∷ n) e ok first = grind (arith, label_parts, is_label-head)

pub root_cut : (o others : Octets) (k : ℕ) (n : DomainName)
    → o ≡ wire n → o ≡ k ∷ others → length others < k → n ≡ []
root_cut o others k [] e first short = refl
root_cut o others k (l ∷ n) e first short = grind (arith, length-append)

pub follows_none : {A : Type 0} (xs : List A) → Follows xs xs
follows_none xs = record { more = []; whole = sym (append-nil xs) }

pub follows_again : {A : Type 0} {xs ys zs : List A} → Follows xs ys → Follows ys zs → Follows xs zs
follows_again {xs = xs} f g = record {
  more = f.more ++ g.more;
  whole = g.whole ∙ ap (λ z. z ++ g.more) f.whole ∙ append_assoc xs f.more g.more;
}
