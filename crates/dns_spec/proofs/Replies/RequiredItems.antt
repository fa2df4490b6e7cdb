-- The sets of a reply begin with the required ones.
use Rattle.dns_spec.proofs.Common.{arith, rules, eqb-true, take_at, filter_map, DomainName, type_cname, target, ResourceRecord, ZoneContents, data_order, of_type, cut_of, found, Section, answer, Item, ◌≡◌, ℕ, Bool, true, false, cond, ◌==◌, ◌⊎◌, inl, inr, List, [], ◌∷◌, ◌++◌, length, take, Option, None, Some, is_some, option_map, unwrap_or, filter, flat_map, refl, sym, ap, ◌∙◌, append_assoc, append-nil, item, follows_alias, alias_set, chain, last_sought, alias_items, Outcome, outcome_by, outcome_at, outcome, has_target_type, targets_of, targets_inside, targets_outside, targets, address_sets, extra, main_items, items, required_items, AllByRecursion}
use Rattle.dns_spec.proofs.General.Elements.{each_any, each_flat_map}
use Rattle.dns_spec.proofs.General.Sorted.{each_sort}

-- the sets added for two lists of targets, one after the other
pub extra_append : (z : ZoneContents) (earlier : List Item) (ms ns : List DomainName)
    → extra z earlier (ms ++ ns) ≡ extra z earlier ms ++ extra z (earlier ++ extra z earlier ms) ns
unfolding extra
extra_append z earlier [] ns = ap (λ e. extra z e ns) (sym (append-nil earlier))
extra_append z earlier (m ∷ ms) ns =
    grind (arith, (extra_append z (earlier ++ (address_sets z earlier m)) ms ns), append_assoc)

-- aliases have no targets
abbrev pub IsAlias : ResourceRecord → Type 0
IsAlias r = r.rtype ≡ type_cname

pub each_of_type : (t : ℕ) (rs : List ResourceRecord)
    → AllByRecursion (λ (r : ResourceRecord). r.rtype ≡ t) (of_type t rs)
each_of_type t rs = each_sort data_order (λ (r : ResourceRecord). r.rtype ≡ t)
    (filter (λ (r : ResourceRecord). r.rtype == t) rs) (filtered rs)
  where
    filtered : (ss : List ResourceRecord) → AllByRecursion
        (λ (r : ResourceRecord). r.rtype ≡ t) (filter (λ (r : ResourceRecord). r.rtype == t) ss)
    filtered [] = tt
    filtered (r ∷ ss) = go (r.rtype == t) refl (filtered ss)
      where
        go : (b : Bool) → (r.rtype == t) ≡ b
            → AllByRecursion (λ (r : ResourceRecord). r.rtype ≡ t) (filter
            (λ (r : ResourceRecord). r.rtype == t) ss)
            → AllByRecursion (λ (r : ResourceRecord). r.rtype ≡ t)
            (cond b (r ∷ filter (λ (r : ResourceRecord). r.rtype == t) ss)
            (filter (λ (r : ResourceRecord). r.rtype == t) ss))
        go true e h = (eqb-true r.rtype t e, h)
        go false e h = h

each_alias : (z : ZoneContents) (s : DomainName) → AllByRecursion IsAlias (alias_set z s)
each_alias z s = go (is_some (cut_of z s)) (some (found z s))
  where
    some : (y : Option (List ResourceRecord))
        → AllByRecursion IsAlias (unwrap_or (option_map (of_type type_cname) y) [])
    some None = tt
    some (Some rs) = each_of_type type_cname rs

    go : (b : Bool)
        → AllByRecursion IsAlias (unwrap_or (option_map (of_type type_cname) (found z s)) [])
        → AllByRecursion IsAlias (cond b []
        (unwrap_or (option_map (of_type type_cname) (found z s)) []))
    go true e = tt
    go false e = e

pub each_item : (P : ResourceRecord → Type 0) (s : Section) (rs : List ResourceRecord)
    → AllByRecursion P rs → AllByRecursion (λ (i : Item). AllByRecursion P i.records) (item s rs)
each_item P s rs h = grind arith

pub each_alias_item : (z : ZoneContents) (q : DomainName) (t : ℕ)
    → AllByRecursion (λ (i : Item). AllByRecursion IsAlias i.records) (alias_items z q t)
each_alias_item z q t = go (follows_alias t)
  where
    go : (b : Bool) → AllByRecursion (λ (i : Item). AllByRecursion IsAlias i.records)
        (cond b (flat_map (λ s. item answer (alias_set z s)) (chain z q t)) [])
    go true =
        each_flat_map (λ (i : Item). AllByRecursion IsAlias i.records)
        (λ _. Unit {0}) (λ s. item answer (alias_set z s)) (chain z q t)
        (λ s _. each_item IsAlias answer (alias_set z s) (each_alias z s)) (each_any (chain z q t))
    go false = tt

abbrev pub target_of : ResourceRecord → Option DomainName
target_of r = cond (has_target_type r) (target r.rtype r.rdata) None

no_target : (rs : List ResourceRecord) → AllByRecursion IsAlias rs → filter_map target_of rs ≡ []
no_target [] e = refl
no_target (r ∷ rs) e = let none : target_of r ≡ None = rw e.0 refl in rw none (no_target rs e.1)

pub no_targets : (is : List Item)
    → AllByRecursion (λ (i : Item). AllByRecursion IsAlias i.records) is → targets_of is ≡ []
no_targets is e = search (rules, no_target, each_flat_map)

-- an outcome is not a referral, or has no sets in the answer section
record Refers (o : Outcome) : Type 0 where
  cases : (o.referral ≡ None) ⊎ (o.answers ≡ [])

refers : (z : ZoneContents) (t : ℕ) (x : Option DomainName) (y : Option (List ResourceRecord))
    → Refers (outcome_by z t x y)
refers z t x y = grind arith

begin : (z : ZoneContents) (o : Outcome) (ms ns : List DomainName)
    → targets o ≡ ms ++ ns → targets_inside o ≡ ms → main_items o ++ extra z
    (main_items o) (targets o) ≡ (main_items o ++ extra z (main_items o) (targets_inside o))
    ++ extra z (main_items o ++ extra z (main_items o) ms) ns
begin z o ms ns whole inside = grind (arith, extra_append, append_assoc)

module _ (z : ZoneContents) (q : DomainName) (t : ℕ) where
  split : (ms : List DomainName) × (ns : List DomainName)
      × (targets (outcome z q t) ≡ ms ++ ns) × (targets_inside (outcome z q t) ≡ ms)
  unfolding outcome outcome_at
  split = go (refers z t (cut_of z s) (found z s)).cases
    where
      s : DomainName
      s = last_sought z q t

      o : Outcome
      o = outcome z q t

      last : Outcome
      last = outcome_by z t (cut_of z s) (found z s)

      go : (last.referral ≡ None) ⊎ (last.answers ≡ []) → (ms : List DomainName) × (ns : List
          DomainName) × (targets (outcome z q t) ≡ ms ++ ns) × (targets_inside (outcome z q t) ≡ ms)
      go (inl none) = grind (arith, targets_inside, o, targets)
      go (inr none) =
          let answers : targets_of o.answers ≡ [] =
          grind (arith, append-nil, no_targets, each_alias_item) in (
            targets_inside o,
            targets_outside o,
            ap (λ x. x ++ targets_inside o ++ targets_outside o) answers,
            refl,
          )

  pub required_first : take (length (required_items z q t)) (items z q t) ≡ required_items z q t
  unfolding items required_items
  required_first =
      let s = split in
      let o = outcome z q t in
      let front = main_items o ++ extra z (main_items o) (targets_inside o) in
      let rest = extra z (main_items o ++ extra z (main_items o) s.0) s.1 in
      ap (take (length front)) (begin z o s.0 s.1 s.2 s.3) ∙ take_at front rest (length front) refl
