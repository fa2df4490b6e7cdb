-- A name that was laid out before is laid out again by the form that it had.
use Rattle.dns_wire.proofs.Common.{◌≡◌, ◌↔◌, ℕ, zero, suc, ◌+◌, ◌<◌, ◌≤◌, Bool, true, false, cond, nat_le, List, [], ◌∷◌, ◌++◌, length, take, None, Some, refl, sym, ap, ap₂, ◌∙◌, subst, arith, append_assoc, append-nil, length-append, le-leb, leb-true, leb-false, lt-leb, ◌⊎◌, inl, inr, false≢true, OnTrue, Octets, DomainName, wire, is_name, Placed, suffix_place, place_of, last_place, shared_place, shared_octets, suffix_to, shared_is, shared_to, shared_none, Kept, IsSharedAt, front_size, pointed_offset, end_octets, asked_offsets, new_offsets, Holds, Follows, IsAsked, name_laid, Form, IsLaid, form_again, suffix_number, Counts, PartialMessage, partial_of, HasNames, WritesAfter, known_offsets, with_octets, subst₂}
use Rattle.std.specs.Bool.{OnFalse}
use Rattle.dns_wire.proofs.AskedLemmas.{kept_more}
use Rattle.dns_wire.proofs.NameWritten.{holds_name, place_left, place_new, shared_cut}
use Rattle.dns_wire.proofs.SuffixLemmas.{found, front-as, front-root, pointed-as, pointed-root, kept-root, kept-high, kept-shared, follows_none}
use Rattle.dns_wire.proofs.Steps.{grows_not}
use Rattle.dns_spec.proofs.Layouts.SharedNames.{Suffix}

-- a suffix that no earlier name has is found in the name n, laid out at offset p
place_added : (ms more : List Placed) (n : DomainName) (p : ℕ) (s : DomainName) → Suffix n s
    → place_of ms s ≡ None → place_of (ms ++ (n, p) ∷ more) s ≡ Some (suffix_place (n, p) s)
place_added ms more n p s suffix none =
    ap (λ x. place_of x s) (sym (append_assoc ms ((n, p) ∷ []) more))
    ∙ place_left (ms ++ (n, p) ∷ []) more s (suffix_place (n, p) s)
    (place_new ms (n, p) s none (suffix_to n s suffix))

-- a name beyond the reach of pointers does not change which offsets its suffixes share
shared_still : (ms more : List Placed) (n : DomainName) (p : ℕ) (s : DomainName) → Suffix n s
    → last_place < p → shared_place (ms ++ (n, p) ∷ more) s ≡ shared_place ms s
shared_still ms more n p s suffix high =
    grind (arith, place_added, place_left, shared_none, lt-leb)

-- how a name is laid out depends only on the offsets at which its suffixes are shared
same_form : (ms ms' : List Placed) (n : DomainName) → ((s : DomainName)
    → Suffix n s → shared_place ms' s ≡ shared_place ms s)
    → IsLaid ms' n (front_size ms n, pointed_offset ms n)
unfolding front_size pointed_offset
same_form ms ms' [] same = grind arith
same_form ms ms' (l ∷ n) same =
    let own = same (l ∷ n) (record { front = []; whole = refl }) in
    let rest = same_form ms ms' n
    (λ s h. same s (record { front = l ∷ h.front; whole = ap (λ x. l ∷ x) h.whole })) in
    grind (arith, front_size, pointed_offset, own, rest)

-- a name that was laid out in this form at offset p is laid out again by `form_again`
pub laid_again : (ms more : List Placed) (n : DomainName) (p : ℕ) (form : Form)
    → ((l : Octets) (t : DomainName) (q : ℕ) → place_of ms (l ∷ t) ≡ Some q → q < p)
    → IsLaid ms n form → IsLaid (ms ++ (n, p) ∷ more) n (form_again p form)
unfolding front_size pointed_offset
laid_again ms more [] p (zero, x) before laid = grind arith
laid_again ms more [] p (suc k, x) before laid = absurd (omega arith)
laid_again ms more (l ∷ t) p (zero, x) before laid =
    grind (arith, front_size, pointed_offset, shared_is, shared_to, place_left)
laid_again ms more (l ∷ t) p (suc k, x) before laid = go (nat_le p last_place) refl
  where
    ms' : List Placed
    ms' = ms ++ (l ∷ t, p) ∷ more

    own : Suffix (l ∷ t) (l ∷ t)
    own = record { front = []; whole = refl }

    unplaced : p ≤ last_place → place_of ms (l ∷ t) ≡ None
    unplaced low = grind (arith, (before l t), (shared_to ms (l ∷ t)), front_size, laid)

    go : (b : Bool) → nat_le p last_place ≡ b
        → IsLaid ms' (l ∷ t) (cond b (zero, Some p) (suc k, x))
    go true e = grind (arith, place_added)
    go false e =
        let high = leb-false p last_place e in
        let same = same_form ms ms' (l ∷ t)
        (λ s suffix. shared_still ms more (l ∷ t) p s suffix high) in
        (same.0 ∙ laid.0, same.1 ∙ laid.1)

-- when a name is laid out again, no more offsets are kept of it
pub none_kept : (head : Octets → ℕ) (ms : List Placed) (n : DomainName) (start at : ℕ) (form : Form)
    → start ≤ at → IsLaid ms n (form_again start form) → new_offsets head ms n at ≡ []
none_kept head ms [] start at form after laid = kept-root head ms at
none_kept head ms (l ∷ t) start at (zero, x) after laid = grind (arith, kept-shared)
none_kept head ms (l ∷ t) start at (suc k, x) after laid =
    grind (arith, kept-shared, kept-high, leb-false)

-- a name that the message spells at a kept offset is laid out as a pointer to that offset
pub laid_there : {head : Octets → ℕ} {ms : List Placed} {b : Octets} {ks : List Kept} {o : Octets}
    (n : DomainName) (p : ℕ) → Holds head ms b ks → o ≡ wire n → is_name n ≡ true
    → IsSharedAt ks b o p → IsLaid ms n (zero, Some p)
laid_there {ms = ms} {b} {ks} n p holds e ok shared =
    let s = subst (λ o. IsSharedAt ks b o p) e shared in
    let f = found n holds ok s.kept (s.spelled n refl ok) in (
      ap (front_size ms) f.whole ∙ front-as ms f.label f.labels f.shared,
      ap (pointed_offset ms) f.whole ∙ pointed-as ms f.label f.labels f.shared,
    )

-- the octets of a name that is laid out in this form
pub laid_cut : (ms : List Placed) (n : DomainName) (form : Form)
    → IsLaid ms n form → shared_octets ms n ≡ take form.0 (wire n) ++ end_octets form.1
laid_cut ms n form laid = grind (arith, shared_cut)

pub form_low : (at : ℕ) (form : Form)
    → 0 < form.0 → at ≤ last_place → form_again at form ≡ (zero, Some at)
form_low at (zero, x) some low = absurd (omega (arith, some))
form_low at (suc k, x) some low = grind arith

pub form_kept : (at : ℕ) (form : Form)
    → (form.0 ≤ 0) ⊎ (last_place < at) → form_again at form ≡ form
form_kept at (zero, x) h = refl
form_kept at (suc k, x) (inl none) = absurd (omega (arith, none))
form_kept at (suc k, x) (inr high) = grind arith

-- a name that fits is written as the octets of its layout, and its offsets are kept
pub name_put : {known : List Placed → Type 0} {head head' : Octets → ℕ} {d d' : PartialMessage}
    {ks : List Kept} (n : DomainName) (o : Octets) → is_name n ≡ true
    → IsAsked d.octets d.asked_end → length d.octets + length o ≤ d.limit → head' ≡ head
    → Follows d.kept ks → d' ≡ record (with_octets d o) { kept = ks }
    → ((ms : List Placed) → HasNames d head ms → known ms → (shared_octets ms n ≡ o)
    × (ks ≡ d.kept ++ new_offsets (suffix_number head) ms n (length d.octets)))
    → WritesAfter known head head' d d' (name_laid n) true
name_put {known} {head} {head'} {d} {ks = ks} n o ok asked room same more is laid =
    subst (λ d'. WritesAfter known head head' d d' (name_laid n) true) (sym is) (record {
      grows = record {
        octets = record { more = o; whole = refl };
        kept = more;
        asked = refl;
        limit = refl;
        counts = refl;
      };
      same = same;
      written = λ ms holds knows.
          let number = suffix_number head in
          let b = d.octets in
          let x = laid ms holds knows in
          let new = new_offsets number ms n (length b) in
          let offsets : asked_offsets number (b ++ o) d.asked_end ++ ks ≡ known_offsets number d
          ++ new
          = kept_more number _ _ _ _ _ _ o asked refl refl x.1
          ∙ sym (append_assoc (asked_offsets number b d.asked_end) d.kept new) in
          record {
            exactly = (
              λ yes. omega (arith, room, length-append b (shared_octets ms n), ap length x.0),
              λ fits. refl,
            );
            written = ap (λ x. b ++ x) (sym x.0);
            stands = λ x same held.
                subst₂ (λ p z. Holds number (ms ++ (n, p) ∷ []) (x ++ shared_octets ms n) z) same
                (ap (λ p. known_offsets number d ++ new_offsets number ms n p) same ∙ sym offsets)
                (holds_name number ms x (known_offsets number d) held n ok);
          };
    })

-- a name that does not fit is not written
pub name_not_put : {known : List Placed → Type 0} {head head' : Octets → ℕ} {d d' : PartialMessage}
    (n : DomainName) (o : Octets) → head' ≡ head → (length d.octets + length o ≤ d.limit → ⊥)
    → d' ≡ d → ((ms : List Placed) → HasNames d head ms → known ms → shared_octets ms n ≡ o)
    → WritesAfter known head head' d d' (name_laid n) false
name_not_put {known} {head} {head'} {d} n o same past is laid =
    subst (λ d'. WritesAfter known head head' d d' (name_laid n) false) (sym is) (record {
      grows = grows_not d;
      same = same;
      written = λ ms holds knows.
          let long = length-append d.octets (shared_octets ms n) in
          let whole = ap length (laid ms holds knows) in
          record {
            exactly = (
              λ no. absurd (false≢true no),
              λ room. absurd (past (omega (arith, room, long, whole))),
            );
            written = tt;
            stands = tt;
          };
    })

-- an owner none of whose offsets are kept is written, or does not fit
pub owner_put : {known : List Placed → Type 0} {head : Octets → ℕ} {d d' : PartialMessage} {t : Bool}
    (n : DomainName) (form : Form) (front : Octets) → is_name n ≡ true
    → IsAsked d.octets d.asked_end → front ≡ take form.0 (wire n)
    → ((t ≡ true) ↔ (length d.octets + (length front + length (end_octets form.1)) ≤ d.limit))
    → OnTrue t (d' ≡ with_octets d (front ++ end_octets form.1)) → OnFalse t (d' ≡ d)
    → ((ms : List Placed) → HasNames d head ms → known ms → IsLaid ms n form
    × (new_offsets (suffix_number head) ms n (length d.octets) ≡ []))
    → WritesAfter known head head d d' (name_laid n) t
owner_put {known} {head} {d} {t = true} n form front ok asked cut fits put not laid =
    let end = end_octets form.1 in
    let room = fits.0 refl in
    name_put n (front ++ end) ok asked (omega (arith, room, length-append front end)) refl
    (follows_none d.kept) put (λ ms holds knows.
    let l = laid ms holds knows in (
      laid_cut ms n form l.0 ∙ ap (λ x. x ++ end) (sym cut),
      sym (ap (λ x. d.kept ++ x) l.1 ∙ append-nil d.kept),
    ))
owner_put {d = d} {t = false} n form front ok asked cut fits put not laid =
    let end = end_octets form.1 in
    name_not_put n (front ++ end) refl
    (λ room. false≢true (fits.1 (omega (arith, room, length-append front end)))) not
    (λ ms holds knows. laid_cut ms n form (laid ms holds knows).0 ∙ ap (λ x. x ++ end) (sym cut))

-- what holds for the octets so far holds for equal octets in which suffixes are compared
pub names_there : {number : Octets → ℕ} {ms : List Placed} {limit a : ℕ} {b message : Octets}
    {ks : List Kept} {n : Counts} {d : PartialMessage} → partial_of limit b a ks n ≡ d → message ≡ b
    → Holds number ms d.octets (known_offsets number d)
    → Holds number ms message (asked_offsets number message a ++ ks)
names_there {number} {ms} {a = a} {ks = ks} view is holds = grind arith

pub anyhow : {P : Type 0} (t : Bool) → P → OnTrue t P
anyhow true p = p
anyhow false p = tt
