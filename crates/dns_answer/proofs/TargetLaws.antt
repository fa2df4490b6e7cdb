-- The targets of a set in order, and what was offered for the earlier ones.
use Rattle.dns_answer.proofs.Common.{◌≡◌, ℕ, zero, suc, ◌+◌, ◌-◌, ◌<◌, ◌≤◌, Bool, true, false, ◌||◌, ◌&&◌, ◌⊎◌, inl, inr, not, List, [], ◌∷◌, ◌++◌, map, sum, length, take, drop, get_or, Option, None, Some, refl, sym, ap, ap₂, ◌∙◌, arith, add-one, append_assoc, append-nil, length-append, subst, take-append-drop, list_all-append, list_any-append, option_to_list, Octets, DomainName, folded, names_equal, same, at_or_below, target, type_a, type_aaaa, ResourceRecord, ZoneContents, at, of_type, RecordSet, set_of, Section, additional, item, targets_in_zone, exists, lt-ltb, IsReadRecord, take-suc, and-true, and-false, false≢true, false_from_ne_true, or_left, or_right, cases_lt, filter-append, filter_map-append, list_all, list_any, filter, filter_map, cons_option, Walk, IsBuilt, nat_lt, is_owner, outside, Among, filter_among, each_weaker, passes_check, recursion_from_All, sum_cons, each_among, filter_none, same-from, same-under, itself-under, under-trans, at-folded, ZoneNode, IsApex, Reaches, Took, State, Offers, set_targets, targets_of_first, target_at, takes_target, addresses_of, depth_in, target_items, side_items, side_nodes, target_nodes, target_misses}
use Rattle.dns_answer.proofs.Taking.{Took-then, Took-within}
use Rattle.dns_answer.proofs.Offering.{Offers-is, Offers-then, Offers-full}

one_more : (o : Option DomainName) → cons_option o [] ≡ option_to_list o
one_more o = grind arith

-- the targets of one more record
pub first-more : (set : RecordSet) (i : ℕ) → i < length set.rdata
    → targets_of_first (i + 1) set ≡ targets_of_first i set ++ option_to_list (target_at i set)
first-more set i h =
    let f = λ (d : Octets). target set.rtype d in
    let d = get_or set.rdata i [] in
    ap (λ k. filter_map f (take k set.rdata)) (add-one i)
    ∙ ap (filter_map f) (take-suc set.rdata i [] h) ∙ filter_map-append f (take i set.rdata)
    (d ∷ []) ∙ ap (λ x. targets_of_first i set ++ x) (one_more (target set.rtype d))

-- one more target, and whether it appeared before
pub any-more : (p : DomainName → Bool) (set : RecordSet) (i : ℕ) → i < length set.rdata
    → list_any p (targets_of_first (i + 1) set) ≡ (list_any p (targets_of_first i set)
    || list_any p (option_to_list (target_at i set)))
any-more p set i h = grind (arith, first-more, list_any-append)

pub stood-some : (p : DomainName → Bool) (set : RecordSet) (count i : ℕ) (m : DomainName)
    → i < count → count ≤ length set.rdata → target_at i set ≡ Some m
    → p m ≡ true → list_any p (targets_of_first count set) ≡ true
stood-some p set zero i m h l e f = absurd (omega arith)
stood-some p set (suc k) i m h l e f =
    ap (λ n. list_any p (targets_of_first n set)) (sym (add-one k))
    ∙ any-more p set k (omega arith)
    ∙ by_place (cases_lt i k) (λ before. stood-some p set k i m before (omega arith) e f)
  where
    last : ℕ → Bool
    last n = list_any p (option_to_list (target set.rtype (get_or set.rdata n [])))

    by_place : (i < k) ⊎ (k ≤ i) → (i < k → list_any p (targets_of_first k set) ≡ true)
        → (list_any p (targets_of_first k set) || last k) ≡ true
    by_place (inl before) rest = or_left _ (last k) (rest before)
    by_place (inr after) rest = grind arith

-- whether all targets pass a test, with one more target
pub all-more : (p : DomainName → Bool) (set : RecordSet) (i : ℕ)
    → i < length set.rdata → list_all p (targets_of_first (i + 1) set)
    ≡ (list_all p (targets_of_first i set) && takes_target p (target_at i set))
all-more p set i h = grind (arith, first-more, list_all-append, and-true)

-- what is offered for two lists of targets in turn, for one target, for one more, and for none
pub side_items-append : (z : ZoneContents) (p : DomainName → Bool) (before ms ns : List DomainName)
    → side_items z p before
    (ms ++ ns) ≡ side_items z p before ms ++ side_items z p (before ++ ms) ns
unfolding side_items
side_items-append z p before [] ns = ap (λ b. side_items z p b ns) (sym (append-nil before))
side_items-append z p before (m ∷ ms) ns =
    grind (arith, append_assoc, (side_items-append z p (before ++ m ∷ []) ms ns))

side_items-one : (z : ZoneContents) (p : DomainName → Bool) (before : List DomainName)
    (o : Option DomainName) → side_items z p before (option_to_list o) ≡ target_items z p before o
unfolding side_items
side_items-one z p before o = grind (arith, append-nil)

pub side_items-more : (z : ZoneContents) (p : DomainName → Bool) (set : RecordSet) (i : ℕ)
    → i < length set.rdata → side_items z p [] (targets_of_first i set) ++ target_items z p
    (targets_of_first i set) (target_at i set) ≡ side_items z p [] (targets_of_first (i + 1) set)
side_items-more z p set i h = grind (arith, side_items-one, side_items-append, first-more)

pub side_items-none : (z : ZoneContents) (p : DomainName → Bool) → side_items z p [] [] ≡ []
unfolding side_items
side_items-none z p = refl

-- how many labels names have below the origin, in all
abbrev pub depths : ZoneContents → List DomainName → ℕ
depths z ns = sum (map (λ (n : DomainName). length n - length z.origin) ns)

pub depths-append : (z : ZoneContents) (ns ms : List DomainName)
    → depths z (ns ++ ms) ≡ depths z ns + depths z ms
depths-append z [] ms = omega arith
depths-append z (n ∷ ns) ms = grind (arith, sum_cons, (depths-append z ns ms))

-- the cost of two lists of targets, one after the other
module _ (z : ZoneContents) (p : DomainName → Bool) where
  nodes-append : (ms ns : List DomainName)
      → side_nodes z p (ms ++ ns) ≡ side_nodes z p ms + side_nodes z p ns
  nodes-append ms ns =
      ap (λ xs. depths z (targets_in_zone z xs)) (filter-append p ms ns)
      ∙ ap (depths z)
      (filter-append (λ (m : DomainName). at_or_below m z.origin) (filter p ms) (filter p ns))
      ∙ depths-append z (targets_in_zone z (filter p ms)) (targets_in_zone z (filter p ns))

  misses-append : (ms ns : List DomainName)
      → length (filter p (ms ++ ns)) ≡ length (filter p ms) + length (filter p ns)
  misses-append ms ns = grind (arith, filter-append, length-append)

  pub Took-more : (set : RecordSet) (i : ℕ) {s s' s'' : Walk} → i < length set.rdata → Took s s'
      (side_nodes z p (targets_of_first i set)) (length (filter p (targets_of_first i set)))
      → Took s' s'' (target_nodes z p (target_at i set)) (target_misses p (target_at i set))
      → Took s s'' (side_nodes z p (targets_of_first (i + 1) set))
      (length (filter p (targets_of_first (i + 1) set)))
  Took-more set i {s} {s'} {s''} h a b =
      grind (arith, first-more, Took-within, nodes-append, misses-append, Took-then)

-- the targets of the first i records of a set, and those of its other records, are all its targets
first-rest : (set : RecordSet) (i : ℕ) → targets_of_first i set
    ++ filter_map (λ (d : Octets). target set.rtype d) (drop i set.rdata) ≡ set_targets set
first-rest set i =
    let of : Octets → Option DomainName = λ d. target set.rtype d in
    sym (filter_map-append of (take i set.rdata) (drop i set.rdata))
    ∙ ap (filter_map of) (take-append-drop i set.rdata)

-- a loop that ends after the first targets costs no more than all targets may
pub Took-rest : (z : ZoneContents) (p : DomainName → Bool) (set : RecordSet) (i : ℕ) {s s' : Walk}
    → Took s s' (side_nodes z p (targets_of_first i set)) (length (filter p (targets_of_first
    i set))) → Took s s' (side_nodes z p (set_targets set)) (length (filter p (set_targets set)))
Took-rest z p set i {s} {s'} took =
    let ms = targets_of_first i set in
    let ns = filter_map (λ (d : Octets). target set.rtype d) (drop i set.rdata) in
    subst (λ all. Took s s' (side_nodes z p all) (length (filter p all))) (first-rest set i)
    (Took-within (omega (arith, nodes-append z p ms ns))
    (omega (arith, misses-append z p ms ns)) took)

-- a full reply counts as offered all targets
pub Offers-rest : (z : ZoneContents) (p : DomainName → Bool) (set : RecordSet) (i : ℕ)
    (w w' : State) → w'.full ≡ true → Offers w w' (side_items z p [] (targets_of_first i set))
    → Offers w w' (side_items z p [] (set_targets set))
Offers-rest z p set i w w' full firsts =
    let others = filter_map (λ (d : Octets). target set.rtype d) (drop i set.rdata) in
    Offers-is _ _ _ _
    (sym (side_items-append z p [] (targets_of_first i set) others)
    ∙ ap (side_items z p []) (first-rest set i))
    (Offers-then _ _ _ _ _ firsts (Offers-full w' _ full))

-- there is no item for an empty set
pub item-none : (s : Section) (rs : List ResourceRecord) → set_of rs ≡ None → item s rs ≡ []
item-none s rs h = grind arith

-- all records of a zone are at or below its origin
owner_inside : (z : ZoneContents)
    → IsBuilt z → (r : ResourceRecord) → Among r z.records → at_or_below r.owner z.origin ≡ true
owner_inside z kept r m =
    let lows = each_weaker IsReadRecord (λ (s : ResourceRecord). folded s.owner ≡ s.owner) z.records
    (λ s h. h.lower_owner) (recursion_from_All IsReadRecord z.records kept.each) in
    let out : outside z r.owner ≡ false =
    passes_check z kept.low lows kept.passes r m outside (search (inl, inr) depth 16) in
    go (at_or_below r.owner z.origin)
    (ap (λ b. b && not (at_or_below r.owner z.origin)) (sym (owner z r m)) ∙ out)
  where
    owner : (z : ZoneContents) (r : ResourceRecord) → Among r z.records → is_owner z r.owner ≡ true
    owner z r m = some (at z r.owner) (filter_among (λ (s : ResourceRecord). same s.owner r.owner)
        r z.records (same-from r.owner r.owner refl) m)
      where
        some : (rs : List ResourceRecord) → Among r rs → nat_lt 0 (length rs) ≡ true
        some [] m = absurd m
        some (s ∷ rs) m = lt-ltb 0 (length (s ∷ rs)) (omega arith)

    go : (b : Bool) → (true && not b) ≡ false → b ≡ true
    go true e = refl
    go false e = absurd (false≢true (sym e))

-- a name that owns no record has no addresses
none-at : (z : ZoneContents) (m : DomainName)
    → ((r : ResourceRecord) → Among r z.records → same r.owner m ≡ true → ⊥) → addresses_of z m ≡ []
none-at z m none = grind (arith, filter_none, each_among, false_from_ne_true)

pub none-outside : (z : ZoneContents) (m : DomainName) → IsBuilt z
    → at_or_below m z.origin ≡ false → addresses_of z m ≡ []
none-outside z m kept out = grind (arith, none-at, false≢true, same-under, owner_inside)

-- a name that does not exist has no addresses
pub none-missing : (z : ZoneContents) (m : DomainName) → exists z m ≡ false → addresses_of z m ≡ []
none-missing z m out =
    none-at z m (λ r a e. false≢true (sym out ∙ some z.records r a (itself-under r.owner m e)))
  where
    some : (rs : List ResourceRecord) (r : ResourceRecord) → Among r rs → at_or_below r.owner m
        ≡ true → list_any (λ (r : ResourceRecord). at_or_below r.owner m) rs ≡ true
    some [] r a e = absurd a
    some (s ∷ rs) r (inl is) e = grind arith
    some (s ∷ rs) r (inr a) e = or_right (at_or_below s.owner m) _ (some rs r a e)

-- the addresses of a name are those of the name in lower case
pub addresses-folded : (z : ZoneContents) (m : DomainName)
    → addresses_of z (folded m) ≡ addresses_of z m
addresses-folded z m = grind (arith, item, additional, of_type, type_a, type_aaaa, at-folded)

-- a target that fails the test, or that is among the earlier targets, adds no addresses
pub items-untaken : (z : ZoneContents) (p : DomainName → Bool) (before : List DomainName)
    (m : DomainName) → p m ≡ false → target_items z p before (Some m) ≡ []
items-untaken z p before m e = grind (arith, list_any, same, addresses_of)

pub items-stood : (z : ZoneContents) (p : DomainName → Bool) (before : List DomainName)
    (m : DomainName) → list_any (same m) before ≡ true → target_items z p before (Some m) ≡ []
items-stood z p before m e = grind (arith, and-false)

-- names in lower case are the same if they are equal
pub same-lower : (n m : DomainName) → folded n ≡ n → folded m ≡ m → names_equal n m ≡ same n m
same-lower n m low kept = sym (ap₂ names_equal low kept)

-- a name at or below a name of the zone is in the zone
pub depth_below : (z : ZoneContents) (m a : DomainName) → at_or_below m a ≡ true
    → at_or_below a z.origin ≡ true → depth_in z m ≡ length m - length z.origin
depth_below z m a h under = grind (arith, under-trans)

-- all targets can be sought from the apex
pub reached_from_apex : (z : ZoneContents) (apex : ZoneNode) (p : DomainName → Bool)
    → IsApex z apex → Reaches z apex.name p
reached_from_apex z apex p top m takes inside =
    subst (λ (v : ZoneNode). at_or_below m v.name ≡ true) (sym top.node) inside

-- a name with at most 127 labels is at most 127 labels below the origin
pub depth-few : (z : ZoneContents) (m : DomainName) → length m ≤ 127 → depth_in z m ≤ 127
depth-few z m few = grind arith
