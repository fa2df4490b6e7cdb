-- The rows of a name's children, added one by one.
use Rattle.dns_zone.proofs.Common.{AddsChildren, Among, Bool, DomainName, AllByRecursion, Equal, IsCanonical, IsChild, IsRow, Less, List, Octets, Ordering, ResourceRecord, Rises, Row, [], ap, append-nil, append_assoc, ap₂, arith, at_or_below, drop, drop-drop, drop_at, drop_more, each_at, each_weaker, false, false_from_ne_true, false≢true, filter, filter-append, filter_each, filter_test, first_of, folded, folded_folded, get_or, get_or-map, inl, is_gt, label_order, labels_of_spelled, length, length-append, list_any, list_any-append, map, map-append, names_equal, names_equal-decides, or_cases, or_right, owners, refl, row_label, row_name, row_octets, same, same-length, span, subst, suc, sym, take, take-append-drop, take_at, to_ascii_lowercase, true, under, ℕ, ◌++◌, ◌+◌, ◌-◌, ◌<◌, ◌∙◌, ◌∷◌, ◌≡◌, ◌≤◌}
use Rattle.dns_zone.proofs.NameTree.{label-tie}
use Rattle.dns_zone.proofs.AtName.{OwnerNotAfter, owners_in_order, is_at}
use Rattle.dns_zone.proofs.Existing.{under-lower}
use Rattle.dns_zone.proofs.Spans.{drop_span, take_span, none_before, none_past, in_span, nothing_further}
use Rattle.dns_zone.proofs.ChildNames.{cons_under, one_above, labels_in_order, other_below, under-longer}
use Rattle.dns_zone.proofs.BoundedChildren.{none_under}
use Rattle.dns_zone.proofs.ChildRows.{is_under, IsBetween, IsNext}
use Rattle.dns_spec.proofs.General.Elements.{each_drop, each_push, among_front, among_back}
use Rattle.dns_spec.proofs.General.Filters.{filter_none, nothing_there, filter_nothing}
use Rattle.dns_spec.proofs.General.Tests.{any_nothing, any_among, among_any}
use Rattle.dns_spec.proofs.General.Pairs.{Pairs, pairs_drop}

pub row_is : (rs : List ResourceRecord) (row : Row) (n : DomainName) → IsRow rs row n
    → row_name rs row ≡ n
unfolding row_name
row_is rs row n h = labels_of_spelled (row_octets rs row) n h.octets h.is_name

-- a rising list, followed by an element that is greater than all of its elements, rises
rises_push : (xs : List Octets) (y : Octets) → Rises label_order xs
    → AllByRecursion (λ x. label_order x y ≡ Less) xs → Rises label_order (xs ++ y ∷ [])
rises_push [] y r e = (tt, tt)
rises_push (x ∷ xs) y r e = grind (arith, each_push, (rises_push xs y r.1 e.1))

-- the children of n at or above the owners of the records before `next` have rows, after the old
-- rows
pub record Adding (rs : List ResourceRecord) (n : DomainName) (own_end : ℕ) (old new : List Row)
    (next : ℕ) : Type 0 where
  pub children : List Row
  pub are : new ≡ old ++ children
  pub each : AllByRecursion (IsChild rs n) children
  pub rising : Rises label_order (map (row_label rs) children)
  pub ahead : (l : Octets) → list_any (is_under (l ∷ n)) (drop next rs) ≡ true
      → AllByRecursion (λ k. label_order k (map to_ascii_lowercase l) ≡ Less)
      (map (row_label rs) children)
  pub all : (l : Octets) → list_any (is_under (l ∷ n)) (take next rs) ≡ true
      → Among (map to_ascii_lowercase l) (map (row_label rs) children)
  pub few : length children ≤ next
  pub from : own_end ≤ next
  pub fits : next ≤ length rs
  pub between : IsBetween rs n next

blank : ResourceRecord
blank = record { owner = []; ttl = 0; rtype = 0; rdata = [] }

module _ (rs : List ResourceRecord) (canonical : IsCanonical rs) (n : DomainName) (row : Row)
    (is_row : IsRow rs row n) where
  none_own : (m : DomainName) → at_or_below m n ≡ true → length m ≡ suc (length n)
      → under m (take row.own_end rs) ≡ []
  none_own m h len =
      let order : row.first ≤ row.end = let a = is_row.first_own in let b = is_row.own_end in
      omega arith in
      let before : under m (take row.first rs) ≡ [] =
      grind (arith, none_under, none_before, is_under, order) in
      let own : under m (span rs row.first row.own_end) ≡ [] =
      filter_none (is_under m) (span rs row.first row.own_end)
      (subst (AllByRecursion (λ r. is_under m r ≡ false)) (sym is_row.own)
      (each_weaker (λ (r : ResourceRecord). same r.owner n ≡ true) (λ r. is_under m r ≡ false)
      (filter (is_at n) rs)
      (λ r s. grind (arith, false_from_ne_true, under-longer r.owner m, same-length r.owner n s, len))
      (filter_each (is_at n) rs)))
      in
      grind (
        arith,
        take_span row.first row.own_end rs is_row.first_own,
        before,
        own,
        filter-append (is_under m) (take row.first rs) (span rs row.first row.own_end),
      )

  pub start : (old : List Row) → Adding rs n row.own_end old old row.own_end
  start old = record {
    children = [];
    are = sym (append-nil old);
    each = tt;
    rising = tt;
    ahead = λ l h. tt;
    all =
        λ l h. absurd
        (false≢true
        (sym (any_nothing (is_under (l ∷ n)) (take row.own_end rs)
        (none_own (l ∷ n) (cons_under l n) refl)) ∙ h));
    few = omega arith;
    from = omega arith;
    fits = let a = is_row.own_end in let b = is_row.end_fits in omega arith;
    between = λ m low h len. inl (none_own m h len);
  }

  pub next_is : (old new : List Row) (k : ℕ) → Adding rs n row.own_end old new k → k < row.end
      → IsNext rs n k
  next_is old new k a h =
      let order : row.first ≤ row.end = let a = is_row.first_own in let b = is_row.own_end in
      omega arith in
      let end = is_row.end_fits in
      let from = a.from in
      let first = is_row.first_own in
      let inside : k < length rs = omega arith in
      let at : get_or (owners rs) k [] ≡ (get_or rs k blank).owner = grind (arith, get_or-map) in
      let under_it =
      in_span (is_under n) rs row.first row.end order is_row.below k blank (omega arith) h
      is_row.end_fits in
      let none : filter (is_at n) (drop row.own_end rs) ≡ [] = grind (arith, is_at, none_past) in
      let other =
      nothing_there (is_at n) rs k blank
      (nothing_further (is_at n) rs row.own_end k a.from none) inside in
      record {
        lower = is_row.lower;
        fits = inside;
        under_it = grind (arith, other_below);
        between = a.between;
      }

  module _ (old new : List Row) (k : ℕ) (a : Adding rs n row.own_end old new k) (child : Row)
      (h : IsChild rs n child) (begins : child.first ≡ k) where
    m : DomainName
    m = h.label ∷ n

    is_child : IsRow rs child m
    unfolding m
    is_child = h.is_row

    more : k < child.end
    more = let b = is_child.more in omega (arith, begins)

    order : k ≤ child.end
    order = omega (arith, more)

    group : span rs k child.end ≡ under m rs
    group = ap (λ (i : ℕ). span rs i child.end) (sym begins) ∙ is_child.below

    none_after : under m (drop child.end rs) ≡ []
    none_after = none_past (is_under m) rs k child.end order group

    label_is : row_label rs child ≡ h.label
    unfolding m
    label_is = ap first_of (row_is rs child m is_child)

    label_lower : map to_ascii_lowercase h.label ≡ h.label
    unfolding m
    label_lower = ap first_of is_child.lower

    -- the first record of the group
    first : ResourceRecord
    first = get_or rs k blank

    k_inside : k < length rs
    k_inside = let c = is_child.end_fits in omega (arith, more)

    first_under : is_under m first ≡ true
    unfolding first
    first_under =
        in_span (is_under m) rs k child.end order group k blank (omega arith) more is_child.end_fits

    rest : drop k rs ≡ first ∷ drop (k + 1) rs
    unfolding first
    rest = drop_more rs k blank k_inside

    any_here : list_any (is_under m) (drop k rs) ≡ true
    any_here = grind (arith, among_any, is_under, rest, first_under)

    any_later : (p : ResourceRecord → Bool) → list_any p (drop child.end rs) ≡ true
        → list_any p (drop k rs) ≡ true
    any_later p e =
        grind (
          arith,
          drop_span k child.end rs order,
          or_right,
          list_any-append p (span rs k child.end) (drop child.end rs),
        )

    after_first : AllByRecursion (OwnerNotAfter first) (drop child.end rs)
    after_first =
        let all =
        (subst (Pairs OwnerNotAfter) rest
        (pairs_drop OwnerNotAfter k rs (owners_in_order rs canonical.ordered))).0 in
        let b = more in
        let at : (k + 1) + (child.end - (k + 1)) ≡ child.end = omega arith in
        subst (AllByRecursion (OwnerNotAfter first))
        (drop-drop (child.end - (k + 1)) (k + 1) rs ∙ ap (λ i. drop i rs) at)
        (each_drop (OwnerNotAfter first) (child.end - (k + 1)) (drop (k + 1) rs) all)

    -- a record at or below a child is at or below the child's name in lower case
    lower_child : (s : ResourceRecord) (l : Octets) → is_under (l ∷ n) s ≡ true
        → is_under (map to_ascii_lowercase l ∷ n) s ≡ true
    lower_child s l u =
        sym (under-lower s.owner (l ∷ n) (map to_ascii_lowercase l ∷ n)
        (ap (λ (x : DomainName). x ++ folded n) (sym (folded_folded (l ∷ [])))) refl) ∙ u

    labels_now : map (row_label rs) (a.children ++ child ∷ []) ≡ map (row_label rs) a.children
        ++ row_label rs child ∷ []
    labels_now = map-append (row_label rs) a.children (child ∷ [])

    later : (l : Octets) → list_any (is_under (l ∷ n)) (drop child.end rs) ≡ true
        → label_order (row_label rs child) (map to_ascii_lowercase l) ≡ Less
    unfolding m
    later l e =
        let s = any_among (is_under (l ∷ n)) (drop child.end rs) e in
        let l' = map to_ascii_lowercase l in
        let under_l = lower_child s.0 l s.2 in
        let lower_l : map to_ascii_lowercase l' ≡ l' = ap first_of (folded_folded (l ∷ [])) in
        let not_gt =
        labels_in_order first.owner s.0.owner n h.label l' is_row.lower label_lower lower_l
        first_under under_l
        (each_at (OwnerNotAfter first) s.0 (drop child.end rs) after_first s.1) in
        let apart : h.label ≡ l' → ⊥ =
        λ q. false≢true
        (sym (each_at (λ r. is_under m r ≡ false) s.0 (drop child.end rs)
        (filter_nothing (is_under m) (drop child.end rs) none_after) s.1)
        ∙ ap (λ (x : Octets). is_under (x ∷ n) s.0) q ∙ under_l)
        in
        ap (λ (x : Octets). label_order x l') label_is
        ∙ less h.label l' (label_order h.label l') refl not_gt
        (λ q. apart (label-tie h.label l' q))
      where
        less : (x y : Octets) (c : Ordering) → label_order x y ≡ c → is_gt c ≡ false
            → (label_order x y ≡ Equal → ⊥) → c ≡ Less
        less x y c q g f = grind arith

    take_now : take child.end rs ≡ take k rs ++ under m rs
    take_now = take_span k child.end rs order ∙ ap (λ xs. take k rs ++ xs) group

    before_it : AllByRecursion (λ x. label_order x (row_label rs child) ≡ Less)
        (map (row_label rs) a.children)
    unfolding m
    before_it =
        subst (λ (y : Octets). AllByRecursion (λ x. label_order x y ≡ Less)
        (map (row_label rs) a.children))
        (label_lower ∙ sym label_is) (a.ahead h.label any_here)

    all_now : (l : Octets) → list_any (is_under (l ∷ n)) (take child.end rs) ≡ true
        → Among (map to_ascii_lowercase l) (map (row_label rs) (a.children ++ child ∷ []))
    unfolding m
    all_now l e =
        let p = is_under (l ∷ n) in
        let l' = map to_ascii_lowercase l in
        let either = list_any-append p (take k rs) (under m rs) in
        let later : list_any p (under m rs) ≡ true → Among l' (map (row_label rs) a.children ++ row_label rs child ∷ []) = λ f.
        let s = any_among p (under m rs) f in
        let one : m ≡ l' ∷ n =
        one_above s.0.owner m (l' ∷ n)
        (filter_test (is_under m) s.0 rs s.1) (lower_child s.0 l s.2) refl is_child.lower
        (ap₂ (λ (x : Octets) (y : DomainName). x ∷ y) (ap first_of (folded_folded (l ∷ [])))
        is_row.lower)
        in
        among_back l' (map (row_label rs) a.children)
        (row_label rs child ∷ []) (inl (sym (ap first_of one) ∙ sym label_is)) in
        grind (
          arith,
          labels_now,
          take_now,
          either,
          or_cases (list_any p (take k rs)),
          later,
          a.all l,
          among_front l' (map (row_label rs) a.children),
        )

    between_now : IsBetween rs n child.end
    unfolding m
    between_now m' low under_n len =
        let other : (names_equal m' m ≡ false) → under m' (under m rs) ≡ [] =
        λ q. filter_none (is_under m') (under m rs)
        (each_weaker (λ r. is_under m r ≡ true) (λ r. is_under m' r ≡ false) (under m rs)
        (λ r u. false_from_ne_true _ (λ v. false≢true (sym q ∙ (names_equal-decides m' m).1
        (one_above r.owner m' m v u len low is_child.lower)))) (filter_each (is_under m) rs)) in
        let before = a.between m' low under_n len in
        let past = nothing_further (is_under m') rs k child.end order in
        let both = filter-append (is_under m') (take k rs) (under m rs) in
        grind (arith, names_equal-decides m' m, none_after, take_now, other, before, past, both)

    pub step : Adding rs n row.own_end old (new ++ child ∷ []) child.end
    step = record {
      children = a.children ++ child ∷ [];
      are = ap (λ xs. xs ++ child ∷ []) a.are ∙ append_assoc old a.children (child ∷ []);
      each = each_push (IsChild rs n) a.children child a.each h;
      rising = grind (arith, labels_now, rises_push, before_it);
      ahead =
          λ l e. subst (AllByRecursion (λ k. label_order k (map to_ascii_lowercase l) ≡ Less))
          (sym labels_now)
          (each_push (λ k. label_order k (map to_ascii_lowercase l) ≡ Less)
          (map (row_label rs) a.children) (row_label rs child)
          (a.ahead l (any_later (is_under (l ∷ n)) e)) (later l e));
      all = all_now;
      few = let c = a.few in omega (arith, more, length-append a.children (child ∷ []));
      from = let c = a.from in omega (arith, more);
      fits = is_child.end_fits;
      between = between_now;
    }

  -- all children have their rows
  pub done : (old new : List Row) (k : ℕ) → Adding rs n row.own_end old new k → row.end ≤ k
      → AddsChildren rs n old new
  done old new k a h =
      let after : drop (length old) new ≡ a.children = grind (arith, drop_at) in
      record {
        longer = omega (arith, ap length a.are, length-append old a.children);
        kept = ap (take (length old)) a.are ∙ take_at old a.children _ refl;
        children = grind (arith, found);
      }
    where
      order : row.first ≤ row.end
      order = let a = is_row.first_own in let b = is_row.own_end in omega arith

      none : (l : Octets) → under (l ∷ n) (drop k rs) ≡ []
      none l =
          none_under (l ∷ n) n (drop k rs) (cons_under l n)
          (nothing_further (is_under n) rs row.end k h
          (none_past (is_under n) rs row.first row.end order is_row.below))

      found : (l : Octets) → list_any (is_under (l ∷ n)) rs ≡ true
          → list_any (is_under (l ∷ n)) (take k rs) ≡ true
      found l e =
          let p = is_under (l ∷ n) in
          let other = any_nothing p (drop k rs) (none l) in
          let both = list_any-append p (take k rs) (drop k rs) in
          let whole = ap (list_any p) (take-append-drop k rs) in
          grind (arith, (other), (both), (whole))
