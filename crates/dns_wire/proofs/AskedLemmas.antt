-- The offsets of the suffixes of the question's name do not depend on what follows the name; the
-- distance of each from the end of the name is the suffix's length.
use Rattle.dns_wire.proofs.Common.{◌≡◌, ℕ, zero, suc, ◌+◌, ◌-◌, ◌<◌, ◌≤◌, true, inl, inr, List, [], ◌∷◌, ◌++◌, length, take, drop, refl, sym, ap, ◌∙◌, subst, arith, append_assoc, length-append, take-append-drop, take_at, replicate, ap₂, Option, None, Some, IfSome, and_parts, list_all, Octets, DomainName, wire, is_name, is_label, drop-drop, drop-take, take-append-le, length-take, length-drop, Stands, run_written, labels_of_spelled, IsWireForm-wire, labels_of, IsWireForm, Kept, IsKept, SpellsSuffix, IsSharedAt, NoneSpelled, AfterLabel, name_before, IsAsked, asked_offsets, NotAsked, IsLastOf, new_offsets}
use Rattle.dns_wire.proofs.SuffixLemmas.{one_run, next_label, kept-root}
use Rattle.dns_wire.proofs.NameWritten.{kept_left, kept_right, kept_split, kept_sound, kept_complete, NewSuffix, is_name-suffix}
use Rattle.dns_spec.proofs.DomainNames.WireNames.{wire_split, longer_wire}

-- the octets between the header and the end of the name
pub before_is : {b : Octets} {a : ℕ} {front name : Octets}
    → IsAsked b a → front ≡ take a b → name ≡ drop 12 front → name ≡ name_before b a
before_is {b} {a} asked front name =
    let whole : a ≡ 12 + (a - 12) = omega (arith, asked.after) in
    name ∙ ap (drop 12) front ∙ ap (λ k. drop 12 (take k b)) whole ∙ drop-take 12 (a - 12) b

-- the octets before the end of the name determine it
pub name_same : (b b' : Octets) (a : ℕ) → take a b' ≡ take a b → name_before b' a ≡ name_before b a
name_same b b' a e = go (a - 12) refl
  where
    go : (m : ℕ) → a - 12 ≡ m → name_before b' a ≡ name_before b a
    go zero none = ap (λ k. take k (drop 12 b')) none ∙ sym (ap (λ k. take k (drop 12 b)) none)
    go (suc m) some =
        let at : 12 + (a - 12) ≡ a = omega (arith, some) in
        sym (drop-take 12 (a - 12) b') ∙ ap (λ k. drop 12 (take k b')) at
        ∙ ap (drop 12) e ∙ sym (ap (λ k. drop 12 (take k b)) at) ∙ drop-take 12 (a - 12) b

pub is_asked_same : {b b' : Octets} {a a' : ℕ}
    → IsAsked b a → take a b' ≡ take a b → a' ≡ a → a ≤ length b' → IsAsked b' a'
is_asked_same {b} {b'} {a} asked e same inside = grind (arith, name_same)

pub is_asked_more : {b b' : Octets} {a a' : ℕ} (o : Octets)
    → IsAsked b a → b' ≡ b ++ o → a' ≡ a → IsAsked b' a'
is_asked_more {b} {b'} {a} o asked e same =
    grind (arith, is_asked_same, take-append-le, length-append)

pub kept_same : (head : Octets → ℕ) (b b' : Octets) (a a' : ℕ) (ks ks' : List Kept) → take a b'
    ≡ take a b → a' ≡ a → ks' ≡ ks → asked_offsets head b' a' ++ ks' ≡ asked_offsets head b a ++ ks
unfolding asked_offsets
kept_same head b b' a a' ks ks' e same offsets = grind (arith, name_same)

-- appending octets leaves all offsets unchanged
pub kept_more : (head : Octets → ℕ) (b b' : Octets) (a a' : ℕ) (ks ks' : List Kept) (o : Octets)
    → IsAsked b a
    → b' ≡ b ++ o → a' ≡ a → ks' ≡ ks → asked_offsets head b' a' ++ ks' ≡ asked_offsets head b a
    ++ ks
kept_more head b b' a a' ks ks' o asked e same offsets = grind (arith, kept_same, take-append-le)

-- without a question there are no labels
no_labels : labels_of [] ≡ []
unfolding labels_of
no_labels = refl

pub asked_nothing : (head : Octets → ℕ) (b : Octets) → asked_offsets head b 12 ≡ []
unfolding asked_offsets
asked_nothing head b = ap (λ n. new_offsets head [] n 12) no_labels ∙ kept-root head [] 12

-- after room for a header, all suffixes of the name have their offsets
pub name_whole : (n : DomainName) (b o : Octets) (a : ℕ)
    → b ≡ (replicate 12 0 ++ wire n) ++ o → a ≡ 12 + length (wire n) → name_before b a ≡ wire n
name_whole n b o a e end = grind (arith, ap₂, take_at)

pub asked_whole : (head : Octets → ℕ) {b : Octets} {a : ℕ} (n : DomainName) (o : Octets)
    → b ≡ (replicate 12 0 ++ wire n) ++ o
    → is_name n ≡ true → a ≡ 12 + length (wire n) → asked_offsets head b a ≡ new_offsets head [] n
    12
unfolding asked_offsets
asked_whole head {b} {a} n o e ok end = ap (λ m. new_offsets head [] m 12)
    (labels_of_spelled (name_before b a) n (name_whole n b o a e end) ok)

pub is_asked_whole : {b : Octets} {a : ℕ} (n : DomainName) (o : Octets)
    → b ≡ (replicate 12 0 ++ wire n) ++ o
    → is_name n ≡ true → length (wire n) ≤ 255 → a ≡ 12 + length (wire n) → IsAsked b a
is_asked_whole {b} {a} n o e ok short end = record {
  after = omega (arith, end);
  inside = grind (arith, end, length-append, replicate, wire);
  near = omega (arith, short, end);
  name = λ h. IsWireForm-wire (name_before b a) n (name_whole n b o a e end) ok;
}

record StandsBefore (b : Octets) (a : ℕ) (n s : DomainName) : Type 0 where
  stands : Stands b (a - length (wire s)) (wire s)
  whole : length (wire n) ≡ a - 12
  short : length (wire s) ≤ length (wire n)

suffix_stands : {b : Octets} {a : ℕ} (n front s : DomainName)
    → IsAsked b a → 12 < a → name_before b a ≡ wire n → n ≡ front ++ s → StandsBefore b a n s
suffix_stands {b} {a} n front s asked some e is =
    let split = wire_split front s in
    let x = split.0 in
    let own : name_before b a ≡ x ++ wire s = e ∙ ap wire is ∙ split.1 in
    let after = drop (a - 12) (drop 12 b) in
    let inside = asked.inside in
    let long = length-take (a - 12) (drop 12 b) in
    let dropped = length-drop 12 b in
    let front_long = length-take 12 b in
    let whole : length (wire n) ≡ a - 12 = omega (arith, ap length e, long, dropped, inside) in
    let both : length (wire n) ≡ length x + length (wire s) =
    sym (ap length e) ∙ ap length own ∙ length-append x (wire s) in
    record {
      stands = record {
        before = take 12 b ++ x;
        after = after;
        whole = grind (arith, take-append-drop, append_assoc);
        place = omega (arith, whole, both, length-append (take 12 b) x, front_long, inside, some);
      };
      whole = whole;
      short = omega (arith, both);
    }

asked_kept : (head : Octets → ℕ) (b : Octets) (a : ℕ) (front t : DomainName) (l : Octets) (p : ℕ)
    → labels_of (name_before b a) ≡ front ++ l ∷ t → length (wire (l ∷ t)) ≤ length (wire
    (labels_of (name_before b a))) → 12 + (length (wire (labels_of (name_before b a))) - length
    (wire (l ∷ t))) ≡ p → p < 16384 → IsKept (asked_offsets head b a) p (head (wire (l ∷ t)))
unfolding asked_offsets
asked_kept head b a front t l p whole short at low =
    kept_complete head [] (labels_of (name_before b a)) front l t 12 p whole refl short at low

-- a suffix of the name, other than the root, is shared at the offset where it begins
pub asked_found : (head : Octets → ℕ) {b : Octets} {a : ℕ} (o : Octets)
    → IsAsked b a → 2 ≤ length o → length o ≤ length (name_before b a)
    → IsLastOf (name_before b a) o → IsSharedAt (asked_offsets head b a) b o (a - length o)
asked_found head {b} {a} o asked two inside last =
    let some : 12 < a = omega (arith, two, inside, length-take (a - 12) (drop 12 b)) in
    let form = asked.name some in
    let l = last (labels_of (name_before b a)) (sym form.wire_is) form.is_name in
    go some form l.0 l.1 l.2 l.3
  where
    go : 12 < a → IsWireForm (name_before b a) → (front s : DomainName) → labels_of (name_before
        b a) ≡ front ++ s → o ≡ wire s → IsSharedAt (asked_offsets head b a) b o (a - length o)
    go some form front [] whole is = absurd (omega (arith, two, ap length is))
    go some form front (l ∷ t) whole is =
        let there = suffix_stands
        (labels_of (name_before b a)) front (l ∷ t) asked some (sym form.wire_is) whole in
        let long = ap length is in
        let near = asked.near in
        let short = there.short in
        record {
          kept = (
            head (wire (l ∷ t)),
            asked_kept head b a front t l (a - length o) whole short
                (omega (arith, there.whole, short, long, some)) (omega (arith, near)),
          );
          reached = omega (arith, near);
          spelled = λ n e ok. (
            n,
            (a - length o) + length (wire n),
            run_written n (and_parts (list_all is_label n) _ ok).0 (subst (Stands b (a - length o))
                e (subst (λ x. Stands b (a - length x) x) (sym is) there.stands)),
            sym e,
          );
        }

-- if no suffix has these octets as its wire form, none of the name's offsets spells them
pub asked_none : {b : Octets} {a : ℕ} (o : Octets)
    → IsAsked b a → ((n front t : DomainName) (l : Octets) → name_before b a ≡ wire n
    → is_name n ≡ true → n ≡ front ++ l ∷ t → wire (l ∷ t) ≡ o → ⊥) → NotAsked b a o
unfolding asked_offsets
asked_none {b} {a} o asked never head p h kept there =
    go (a - 12) refl (kept_sound head [] (labels_of (name_before b a)) 12 p h kept)
  where
    go : (m : ℕ) → a - 12 ≡ m → NewSuffix [] (labels_of (name_before b a)) 12 p → ⊥
    go zero none s =
        let empty : labels_of (name_before b a) ≡ [] =
        ap (λ k. labels_of (take k (drop 12 b))) none ∙ no_labels in
        omega (arith, ap length (sym empty ∙ s.whole), length-append s.front (s.label ∷ s.labels))
    go (suc m) more s =
        let some : 12 < a = omega (arith, more) in
        let form = asked.name some in
        let n = labels_of (name_before b a) in
        let suffix : DomainName = s.label ∷ s.labels in
        let stands = suffix_stands n s.front suffix asked some (sym form.wire_is) s.whole in
        let all = stands.whole in
        let at : a - length (wire suffix) ≡ p = omega (arith, s.offset, s.wire_length, all, some) in
        let ok =
        is_name-suffix s.front suffix (subst (λ x. is_name x ≡ true) s.whole form.is_name) in
        let run = run_written suffix (and_parts (list_all is_label suffix) _ ok).0
        (subst (λ k. Stands b k (wire suffix)) at stands.stands) in
        never n s.front s.labels s.label
        (sym form.wire_is) form.is_name s.whole (ap wire (one_run run there.2) ∙ there.3)

-- octets that are spelled neither in the question's name nor at a kept offset are spelled at no
-- offset
pub none_of_both : (head : Octets → ℕ) (b : Octets) (a h : ℕ) (ks : List Kept) (o : Octets)
    → NotAsked b a o → NoneSpelled ks h b o → NoneSpelled (asked_offsets head b a ++ ks) h b o
none_of_both head b a h ks o unasked none p kept there =
    elim (kept_split (asked_offsets head b a) ks p h kept) [
      | inl k ↦ unasked head p h k there
      | inr k ↦ none p k there
    ]

pub shared_asked : (asked ks : List Kept) {b o : Octets} {p : ℕ}
    → IsSharedAt asked b o p → IsSharedAt (asked ++ ks) b o p
shared_asked asked ks {p = p} s = record {
  kept =
      (s.kept.0, kept_left asked ks p s.kept.0 s.kept.1);
  spelled = s.spelled;
  reached = s.reached;
}

pub shared_kept : (asked ks : List Kept) (b o : Octets) (h : ℕ) (r : Option ℕ)
    → IfSome r (λ p. IsKept ks p h) → IfSome r (λ p. SpellsSuffix b p o)
    → IfSome r (λ p. p < 16384) → IfSome r (λ p. IsSharedAt (asked ++ ks) b o p)
shared_kept asked ks b o h None kept spelled reached = tt
shared_kept asked ks b o h (Some p) kept spelled reached =
    record { kept = (h, kept_right asked ks p h kept); spelled = spelled; reached = reached }

-- `rest` is a name from one of its labels on. A suffix of `count` octets is a suffix of `rest` too.
pub record LastNow (n : DomainName) (rest : Octets) (count : ℕ) : Type 0 where
  pub front : DomainName
  pub left : DomainName
  pub whole : n ≡ front ++ left
  pub spelled : rest ≡ wire left
  pub is_name : is_name left ≡ true
  pub ahead : (f t : DomainName) (l : Octets)
      → n ≡ f ++ l ∷ t → length (wire (l ∷ t)) ≡ count → (g : DomainName) × (left ≡ g ++ l ∷ t)

pub record Last (name rest : Octets) (count : ℕ) : Type 0 where
  pub shorter : length rest ≤ length name
  pub end : rest ≡ drop (length name - length rest) name
  pub all : (n : DomainName) → name ≡ wire n → is_name n ≡ true → LastNow n rest count

pub last_label : {name rest after : Octets} {count : ℕ} (k : ℕ)
    → Last name rest count → AfterLabel rest k after → count < length rest → Last name after count
last_label {name} {rest} {after} {count} k last a longer = record {
  shorter = let s =
      last.shorter in omega (arith, s, ap length a.first, ap length a.cut, length-drop k a.others);
  end =
      let s = last.shorter in
      let count_of : length name - length rest + suc k ≡ length name - length after =
      omega (arith, s, a.fits, ap length a.first, ap length a.cut, length-drop k a.others) in
      a.cut ∙ sym (ap (λ (o : Octets). drop (suc k) o) a.first) ∙ ap (drop (suc k)) last.end
      ∙ drop-drop (suc k) (length name - length rest) name ∙ ap (λ m. drop m name) count_of;
  all = λ n e ok.
      let x = last.all n e ok in
      let f = next_label x.left x.spelled x.is_name a in
      record {
        front = x.front ++ f.label ∷ [];
        left = f.labels;
        whole = x.whole
            ∙ ap (λ z. x.front ++ z) f.whole ∙ sym (append_assoc x.front (f.label ∷ []) f.labels);
        spelled = f.spelled;
        is_name = f.is_name;
        ahead = λ g t l is long. let h = x.ahead g t l is long in
            next f.label f.labels h.0 t l f.before (sym f.whole ∙ h.1) long;
      };
}
  where
    next : (k : Octets) (m g t : DomainName) (l : Octets) → rest ≡ wire (k ∷ m)
        → k ∷ m ≡ g ++ l ∷ t → length (wire (l ∷ t)) ≡ count → (g' : DomainName) × (m ≡ g' ++ l ∷ t)
    next k m [] t l spelled here long = grind arith
    next k m (x ∷ g) t l spelled here long = (g, ap (λ (y : DomainName). drop 1 y) here)

pub last_of : {name rest : Octets} {count : ℕ} → Last name rest count → IsLastOf name rest
last_of last n e ok = let a = last.all n e ok in (a.front, a.left, a.whole, a.spelled)

pub last_here : {name rest : Octets} {count : ℕ} → Last name rest count
    → length rest ≤ count → (n front t : DomainName) (l : Octets) → name ≡ wire n
    → is_name n ≡ true → n ≡ front ++ l ∷ t → length (wire (l ∷ t)) ≡ count → rest ≡ wire (l ∷ t)
last_here {name} {rest} {count} last here n front t l e ok whole long =
    let a = last.all n e ok in
    let h = a.ahead front t l whole long in
    go a.left h.0 a.spelled h.1
  where
    go : (left g : DomainName) → rest ≡ wire left → left ≡ g ++ l ∷ t → rest ≡ wire (l ∷ t)
    go left [] spelled is = spelled ∙ ap wire is
    go left (x ∷ g) spelled is = grind (arith, longer_wire, length-append)

pub two_octets : (l : Octets) (t : DomainName) → 2 ≤ length (wire (l ∷ t))
two_octets l [] = omega (arith, length-append l (wire []))
two_octets l (k ∷ t) = omega (arith, length-append l (wire (k ∷ t)))
