-- The path down to a name, from the path to the name above it.
use Rattle.dns_zone.proofs.Common.{◌≡◌, ℕ, suc, ◌+◌, ◌≤◌, Bool, true, false, cond, ◌||◌, ◌&&◌, List, [], ◌∷◌, map, reverse, length, None, Some, refl, sym, ap, ◌∙◌, arith, false≢true, and_parts, ltb-true, false_from_ne_true, length-map, reverse-append, to_ascii_lowercase, option_or, is_some, Octets, DomainName, folded, names_equal, same, at_or_below, below, suffixes, type_ns, ResourceRecord, ZoneContents, at, owns, rrset, sort_by, insert_by, data_order, set_of, folded_folded, find-append, find, filter, list_any, exists, is_cut, cut_of, closest_encloser, without_first, at_or_below-cons, same-length}
use Rattle.dns_zone.proofs.ChildNames.{cons_under}
use Rattle.dns_zone.proofs.NameTree.{under-trans}
use Rattle.dns_zone.proofs.OwnRecords.{own_owns}
use Rattle.dns_zone.proofs.Existing.{exists-lower}
pub use Rattle.dns_spec.proofs.General.Tests.{any_weaker}

-- names above and below
pub above_under : (l : Octets) (n a : DomainName) (k : ℕ)
    → at_or_below (l ∷ n) a ≡ true → length (l ∷ n) ≡ length a + suc k → at_or_below n a ≡ true
above_under l n a k h len = go (same (l ∷ n) a) refl (sym (at_or_below-cons l n a) ∙ h)
  where
    go : (b : Bool) → same (l ∷ n) a ≡ b → (b || at_or_below n a) ≡ true → at_or_below n a ≡ true
    go true e f = absurd (let s = same-length (l ∷ n) a e in omega arith)
    go false e f = f

pub under_same : (n a : DomainName) → at_or_below n a ≡ true → length n ≡ length a → same n a ≡ true
under_same n a h len = grind (arith, and_parts)

-- the cuts on the way
cut_from : (z : ZoneContents) (l : Octets) (n : DomainName) → cut_of z
    (l ∷ n) ≡ option_or (cut_of z n) (cond (is_cut z (folded (l ∷ n))) (Some (folded (l ∷ n))) None)
cut_from z l n =
    ap (find (is_cut z)) (reverse-append (folded (l ∷ n) ∷ []) (suffixes (folded n)))
    ∙ find-append (is_cut z) (reverse (suffixes (folded n))) (folded (l ∷ n) ∷ [])

pub cut-above : (z : ZoneContents) (l : Octets) (n c : DomainName)
    → cut_of z n ≡ Some c → cut_of z (l ∷ n) ≡ Some c
cut-above z l n c e = grind (arith, cut_from, option_or, is_cut, folded, Some, None)

pub cut-here : (z : ZoneContents) (l : Octets) (n : DomainName) → cut_of z n ≡ None
    → is_cut z (folded (l ∷ n)) ≡ true → cut_of z (l ∷ n) ≡ Some (folded (l ∷ n))
cut-here z l n e f = grind (arith, cut_from, option_or, is_cut, folded, Some, None)

pub cut-none : (z : ZoneContents) (l : Octets) (n : DomainName)
    → cut_of z n ≡ None → is_cut z (folded (l ∷ n)) ≡ false → cut_of z (l ∷ n) ≡ None
cut-none z l n e f = grind (arith, cut_from, option_or, is_cut, folded, Some, None)

-- an RRset exists if and only if a record of its type does
insert_some : (r : ResourceRecord) (rs : List ResourceRecord)
    → is_some (set_of (insert_by data_order r rs)) ≡ true
insert_some r [] = refl
insert_some r (s ∷ rs) = grind arith

sorted_some : (rs : List ResourceRecord)
    → is_some (set_of (sort_by data_order rs)) ≡ is_some (set_of rs)
sorted_some rs = grind (arith, insert_some)

filtered_some : (p : ResourceRecord → Bool) (rs : List ResourceRecord)
    → is_some (set_of (filter p rs)) ≡ list_any p rs
filtered_some p [] = refl
filtered_some p (r ∷ rs) = grind (arith, (filtered_some p rs))

pub set-owned : (z : ZoneContents) (n : DomainName) (t : ℕ)
    → is_some (set_of (rrset z n t)) ≡ owns z n t
set-owned z n t = grind (arith, sorted_some, filtered_some, own_owns)

-- a name below the origin is a cut if and only if it owns NS
pub cut-by_set : (z : ZoneContents) (n : DomainName)
    → below n z.origin ≡ true → is_cut z n ≡ is_some (set_of (rrset z n type_ns))
cut-by_set z n h = ap (λ b. b && owns z n type_ns) h ∙ sym (set-owned z n type_ns)

-- names that exist
pub exists-folded : (z : ZoneContents) (n : DomainName) → exists z (folded n) ≡ exists z n
exists-folded z n = simp (exists-lower, folded, folded_folded, length-map, to_ascii_lowercase)

pub exists-up : (z : ZoneContents) (l : Octets) (n : DomainName)
    → exists z n ≡ false → exists z (l ∷ n) ≡ false
exists-up z l n e = false_from_ne_true (exists z (l ∷ n)) (λ h.
    false≢true (sym e ∙ any_weaker (λ (r : ResourceRecord). at_or_below r.owner (l ∷ n))
    (λ (r : ResourceRecord). at_or_below r.owner n) z.records
    (λ r under. under-trans r.owner (l ∷ n) n under (cons_under l n)) h))

-- the closest encloser
first_suffix : (z : ZoneContents) (n : DomainName) → find (exists z)
    (suffixes n) ≡ cond (exists z n) (Some n) (find (exists z) (without_first (suffixes n)))
first_suffix z [] = refl
first_suffix z (l ∷ n) = refl

pub encloser-here : (z : ZoneContents) (l : Octets) (n : DomainName)
    → exists z n ≡ true → closest_encloser z (l ∷ n) ≡ Some (folded n)
encloser-here z l n e = grind (arith, first_suffix, folded, Some, without_first, exists-folded)

pub encloser-above : (z : ZoneContents) (l : Octets) (n : DomainName)
    → exists z n ≡ false → closest_encloser z (l ∷ n) ≡ closest_encloser z n
encloser-above z l n e = grind (arith, first_suffix, folded, Some, without_first, exists-folded)

-- no cut is at the origin or above it
short_cut : (z : ZoneContents) (n : DomainName) → length n ≤ length z.origin → is_cut z n ≡ false
short_cut z n h = grind (arith, ltb-true)

pub no_cut-at_origin : (z : ZoneContents) (n : DomainName)
    → length n ≤ length z.origin → cut_of z n ≡ None
no_cut-at_origin z [] h = ap (λ b. cond b (Some []) None) (short_cut z [] h)
no_cut-at_origin z (l ∷ n) h = cut-none z l n (no_cut-at_origin z n (omega arith))
    (short_cut z (folded (l ∷ n)) (omega (arith, length-map (l ∷ n) (map to_ascii_lowercase))))

-- the case of a name does not matter for its records
pub at-folded : (z : ZoneContents) (n : DomainName) → at z (folded n) ≡ at z n
at-folded z n = grind (arith, filter, names_equal, folded, folded_folded)
