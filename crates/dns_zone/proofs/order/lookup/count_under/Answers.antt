use Rattle.dns_zone.proofs.Common.{◌≡◌, ◌∙◌, ◌-◌, ◌<◌, ◌≤◌, ◌⊎◌, inl, inr, ℕ, take, subst, cases_lt, length-take, min-eq_left, get_or-take, Bool, true, false, ap, sym, length, get_or, List, [], ◌∷◌, refl, arith, false≢true, false_from_ne_true, IsPartitionedBy, IsFront, rules, IsPartitionPoint-from_clause, at_or_below, ResourceRecord}
use Rattle.dns_spec.proofs.General.Tests.{first_passes}
use Rattle.dns_spec.proofs.General.Fronts.{halves, parted_take}
use Rattle.std.specs.List.Sorted.{IsPartitionPoint}
use Rattle.dns_zone.proofs.order.lookup.count_under.Goals as goal

-- if the first element does not pass, none does
none_in_front : {X : Type 0} (p : X → Bool) (xs : List X) → first_passes p xs ≡ false
    → IsPartitionedBy p xs → IsFront p xs 0
none_in_front p [] fails parts = record { bound = omega arith; passing = refl; others = refl }
none_in_front p (x ∷ xs) fails parts =
    let none = halves p (x ∷ xs) 0 (omega arith) (
      λ k d a b. absurd (omega (arith, b)),
      λ k d a b. let before = parts 0 k d in grind (arith, false_from_ne_true, false≢true),
    ) in
    record { bound = omega arith; passing = none.0; others = none.1 }

pub returns-in_default : goal.returns-in_default
returns-in_default c = none_in_front _ _ (search rules) c.requires.in_front

pub returns-then-not-is_under : goal.returns-then-not-is_under
returns-then-not-is_under c = none_in_front _ _ (search rules) c.requires.in_front

-- if the last element passes, all do
all_in_front : {X : Type 0} (p : X → Bool) (xs : List X) → ((d : X)
    → p (get_or xs (length xs - 1) d) ≡ true) → IsPartitionedBy p xs → IsFront p xs (length xs)
all_in_front p xs last parts =
    let found = halves p xs (length xs) (omega arith) (
      λ k d a b. parts k (length xs - 1) d (omega (arith, b)) (omega (arith, b)) (last d),
      λ k d a b. absurd (omega (arith, a, b)),
    ) in
    record { bound = omega arith; passing = found.0; others = found.1 }

pub returns-then-is_under : goal.returns-then-is_under
returns-then-is_under c =
    let rs = c.args.records.now in
    let last : (d : ResourceRecord) → get_or rs (length rs - 1) d ≡ c.in-Some-Some.last.now =
    search rules in
    all_in_front _ rs
    (λ d. ap (λ (r : ResourceRecord). at_or_below r.owner c.args.name.now) (last d)
    ∙ sym c.is_under.ensures ∙ c.if-is_under.true) c.requires.in_front

-- the first elements that pass, among those before index n, if the element at n does not pass
front_before : {X : Type 0} (p : X → Bool) (xs ys : List X) (n r : ℕ) → ys ≡ take n xs
    → n ≤ length xs → IsPartitionedBy p xs
    → ((d : X) → n < length xs → p (get_or xs n d) ≡ false) → r ≤ length ys
    → IsPartitionPoint (λ y. p y ≡ true) (λ y. p y ≡ false) ys r → IsFront p xs r
front_before {X} p xs ys n r e inside parts stop bound point =
    let count : length ys ≡ n = ap length e ∙ length-take n xs ∙ min-eq_left inside in
    let found = halves p xs r (omega (arith, bound, count, inside)) (
      λ k d a b. ap p (sym (same k d (omega (arith, b, bound, count))))
          ∙ point.0 k d a b,
      λ k d a b. go k d a b count (cases_lt k n),
    ) in
    record {
      bound = omega (arith, bound, count, inside);
      passing = found.0;
      others = found.1;
    }
  where
    same : (k : ℕ) (d : X) → k < n → get_or ys k d ≡ get_or xs k d
    same k d l = ap (λ zs. get_or zs k d) e ∙ get_or-take n xs k d l

    go : (k : ℕ) (d : X) → r ≤ k → k < length xs → length ys ≡ n → (k < n) ⊎ (n ≤ k)
        → p (get_or xs k d) ≡ false
    go k d a b c (inl l) = ap p (sym (same k d l)) ∙ point.1 k d a (omega (arith, l, c))
    go k d a b c (inr l) =
        false_from_ne_true _ (λ t. false≢true
        (sym (stop d (omega (arith, l, b))) ∙ parts n k d l b t))

pub returns : goal.returns
returns c =
    let p = λ (r : ResourceRecord). at_or_below r.owner c.args.name.now in
    let rs = c.args.records.now in
    let front = c.split_at.result.0.now in
    let n = c.upto_other.result in
    let front_is = c.split_at.ensures.front in
    front_before p rs front n c.partition_point.result front_is c.upto_other.ensures.bound
    c.requires.in_front c.upto_other.ensures.other c.partition_point.ensures.bound
    (IsPartitionPoint-from_clause p front _ c.partition_point.ensures.partitioned
    (subst (IsPartitionedBy p) (sym front_is) (parted_take p rs n c.requires.in_front))
    (λ a r q k. search rules))
