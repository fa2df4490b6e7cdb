-- An answer of a zone that passes has few targets and few sets, and visits few nodes for each name.
use Rattle.dns_spec.proofs.Common.{◌≡◌, ℕ, ◌+◌, ◌*◌, ◌≤◌, nat_lt, Bool, true, false, not, ◌==◌, inl, List, [], ◌∷◌, ◌++◌, map, sum, length, Option, None, Some, All, filter, flat_map, refl, sym, ap, subst, arith, append-nil, length-append, eqb-true, ltb-false, none-some, flat_map-append, length-map, option_to_list, DomainName, is_name, folded, same, at_or_below, ResourceRecord, ZoneContents, data_order, at, of_type, with_owner, found, Section, answer, Item, records_of, filter_map-append, filter_map, most_of_a_set, count, large_set, Passes, most_aliases, item, alias_set, last_sought, alias_items, Outcome, outcome_by, outcome_at, outcome, targets_of, targets_inside, targets_outside, targets, address_sets, extra, main_items, items, nodes_to, most_visits, names_looked_up, AllByRecursion, recursion_from_All, inr}
use Rattle.dns_spec.proofs.DomainNames.NameLaws.{names_equal-decides, length-is_name}
use Rattle.dns_spec.proofs.Replies.WritableItems.{Named, chain_named, named_target}
use Rattle.dns_spec.proofs.ZoneChecks.PassedChecks.{passes_check}
use Rattle.dns_spec.proofs.Replies.RequiredItems.{target_of, each_alias_item, no_targets}
use Rattle.dns_spec.proofs.Replies.ChainLength.{chain_short}
use Rattle.dns_spec.proofs.General.Elements.{Among, each_append}
use Rattle.dns_spec.proofs.General.Filters.{each_filter, among_filter, filter_short, filter_test, filtered_lengths, mapped_short}
use Rattle.dns_spec.proofs.General.Tests.{any_false}
use Rattle.dns_spec.proofs.General.Sorted.{length-sort_by}
use Rattle.dns_spec.proofs.General.Numbers.{sum_cons}

-- the records of items
pub item_records : (s : Section) (rs : List ResourceRecord) → records_of (item s rs) ≡ rs
item_records s rs = grind (arith, append-nil)

-- the targets of an answer are the targets of its last outcome: aliases have none
pub targets_last : (z : ZoneContents) (q : DomainName) (t : ℕ)
    → targets (outcome z q t) ≡ targets (outcome_at z t (last_sought z q t))
unfolding outcome
targets_last z q t =
    grind (arith, target_of, flat_map-append, filter_map-append, no_targets, each_alias_item)

-- a set has at most as many targets as records
targets_short : (s : Section) (rs : List ResourceRecord)
    → length (targets_of (item s rs)) ≤ length rs
targets_short s rs = grind (arith, item_records, mapped_short)

typed_shown : (o : DomainName) (t : ℕ) (rs : List ResourceRecord)
    → length (filter (λ (r : ResourceRecord). r.rtype == t) (with_owner o rs))
    ≡ length (filter (λ (r : ResourceRecord). r.rtype == t) rs)
typed_shown o t [] = refl
typed_shown o t (r ∷ rs) = grind (arith, (typed_shown o t rs))

module _ (z : ZoneContents) (origin : folded z.origin ≡ z.origin) (low : AllByRecursion
    (λ (r : ResourceRecord). folded r.owner ≡ r.owner) z.records) (passes : Passes z) where
  -- a limit of this project: the most records of a set
  pub count_few : (n : DomainName) (t : ℕ) → count z n t ≤ most_of_a_set
  count_few n t = go (filter (λ (r : ResourceRecord). r.rtype == t) (at z n)) refl
    where
      few : (r : ResourceRecord) → Among r (filter (λ (s : ResourceRecord). s.rtype == t) (at z n))
          → count z n t ≤ most_of_a_set
      few r m =
          let in_at = among_filter (λ (s : ResourceRecord). s.rtype == t) r (at z n) m in
          let in_zone = among_filter (λ (s : ResourceRecord). same s.owner n) r z.records in_at in
          let is_t : r.rtype ≡ t = grind (arith, eqb-true, filter_test) in
          let alike : folded r.owner ≡ folded n = (names_equal-decides (folded r.owner) (folded
          n)).0 (filter_test (λ (s : ResourceRecord). same s.owner n) r z.records in_at) in
          let one_name : at z r.owner ≡ at z n = grind arith in
          let fine : large_set z r.owner ≡ false =
          passes_check z origin low passes r in_zone large_set (search (inl, inr) depth 16) in
          let one : nat_lt most_of_a_set (count z r.owner r.rtype) ≡ false =
          any_false (λ (q : ResourceRecord). nat_lt most_of_a_set (count z r.owner q.rtype))
          (at z r.owner) r fine (subst (Among r) (sym one_name) in_at)
          in
          let own : count z r.owner r.rtype ≡ count z n t =
          grind arith
          in
          let bound = ltb-false most_of_a_set (count z r.owner r.rtype) one in
          omega (arith, bound, own)

      go : (rs : List ResourceRecord) → filter (λ (r : ResourceRecord). r.rtype == t) (at z n) ≡ rs
          → count z n t ≤ most_of_a_set
      go [] e = let none = ap length e in omega (arith, none)
      go (r ∷ rs) e = few r (subst (Among r) (sym e) (inl refl))

  shown_few : (o n : DomainName) (t : ℕ)
      → length (of_type t (with_owner o (at z n))) ≤ most_of_a_set
  shown_few o n t =
      let a = length-sort_by data_order
      (filter (λ (r : ResourceRecord). r.rtype == t) (with_owner o (at z n))) in
      let b = typed_shown o t (at z n) in
      let c = count_few n t in
      omega (arith, a, b, c)

  outcome_few : (s : DomainName) (t : ℕ) (x : Option DomainName) (y : Option (List ResourceRecord))
      → found z s ≡ y → length (targets (outcome_by z t x y)) ≤ most_of_a_set
  outcome_few s t x y h =
      grind (
        arith,
        length-append,
        filtered_lengths,
        targets_short,
        length-map,
        length-sort_by,
        count_few,
        shown_few,
      )

  targets_few : (q : DomainName) (t : ℕ) → length (targets (outcome z q t)) ≤ most_of_a_set
  unfolding outcome_at
  targets_few q t = grind (arith, targets_last, outcome_few)

-- the number of sets of an answer
main_one : (z : ZoneContents) (t : ℕ) (x : Option DomainName) (y : Option (List ResourceRecord))
    → length (main_items (outcome_by z t x y)) ≤ 1
main_one z t x y = grind arith

aliases_few : (z : ZoneContents) (ns : List DomainName)
    → length (flat_map (λ n. item answer (alias_set z n)) ns) ≤ length ns
aliases_few z [] = omega arith
aliases_few z (n ∷ ns) = grind (arith, length-append, (aliases_few z ns))

alias_items_few : (z : ZoneContents) (q : DomainName) (t : ℕ)
    → length (alias_items z q t) ≤ 1 + most_aliases
alias_items_few z q t = grind (arith, aliases_few, chain_short)

extra_few : (z : ZoneContents) (earlier : List Item) (ms : List DomainName)
    → length (extra z earlier ms) ≤ 2 * length ms
unfolding extra
extra_few z earlier [] = omega arith
extra_few z earlier (m ∷ ms) =
    grind (arith, length-append, (extra_few z (earlier ++ (address_sets z earlier m)) ms))

module _ (z : ZoneContents) (origin : folded z.origin ≡ z.origin)
    (low : All (λ (r : ResourceRecord). folded r.owner ≡ r.owner) z.records)
    (passes : Passes z) (q : DomainName) (t : ℕ) where
  pub few_targets : length (targets (outcome z q t)) ≤ most_of_a_set
  few_targets = grind (arith, targets_few, recursion_from_All)

  pub few_items : length (items z q t) ≤ 2 + most_aliases + 2 * most_of_a_set
  unfolding items outcome outcome_at
  few_items = grind (arith, length-append, main_one, alias_items_few, extra_few, few_targets)

-- the number of nodes that an answer visits
nodes_few : (z : ZoneContents) (ns : List DomainName)
    → AllByRecursion Named ns → sum (map (nodes_to z) ns) ≤ 128 * length ns
nodes_few z [] e = omega arith
nodes_few z (n ∷ ns) e = grind (arith, length-is_name, sum_cons, (nodes_few z ns e.1))

targets_named : (rs : List ResourceRecord) → AllByRecursion Named (filter_map target_of rs)
targets_named [] = tt
targets_named (r ∷ rs) = grind (arith, target_of, named_target, none-some, (targets_named rs))

module _ (z : ZoneContents) (q : DomainName) (t : ℕ) (h : is_name q ≡ true) where
  all_named : (o : Outcome) → AllByRecursion Named (targets o)
  all_named o =
      each_append Named (targets_of o.answers ++ targets_inside o) (targets_outside o)
      (each_append Named (targets_of o.answers) (targets_inside o)
      (targets_named (records_of o.answers)) (some (λ m c. at_or_below m c) o.referral))
      (some (λ m c. not (at_or_below m c)) o.referral)
    where
      some : (p : DomainName → DomainName → Bool) (x : Option DomainName) → AllByRecursion Named
          (flat_map (λ c. filter (λ m. p m c) (targets_of o.authorities)) (option_to_list x))
      some p None = tt
      some p (Some c) = subst (AllByRecursion Named)
          (sym (append-nil (filter (λ m. p m c) (targets_of o.authorities)))) (each_filter Named
          (λ m. p m c) (targets_of o.authorities) (targets_named (records_of o.authorities)))

  pub few_nodes : most_visits z q t ≤ 128 * names_looked_up z q t
  few_nodes = grind (arith, nodes_few, chain_named, each_filter, all_named, filter_short)
