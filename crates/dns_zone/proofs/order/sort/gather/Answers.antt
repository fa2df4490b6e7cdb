use Rattle.dns_zone.proofs.Common.{arith, refl, ◌≡◌, ◌∙◌, ◌<◌, length, take, get_or-set_same, get_or-set_other, length-set, subst, ap, SortKey}
use Rattle.dns_zone.proofs.Gathered.{IsGathered, none_gathered, follows_on, found, one_more, all_gathered}
use Rattle.dns_zone.specs.SortKeyForm.{no_sort_key}
use Rattle.dns_zone.proofs.order.sort.gather.Goals as goal

pub sort_keys-init : goal.sort_keys-init
sort_keys-init c = none_gathered _ _ c.requires.apart c.requires.inside

pub moved-init : goal.moved-init
moved-init c = λ end h l. refl

pub moved-preserved : goal.moved-preserved
moved-preserved c = λ end h l.
    grind (arith, c.moved.invariant end h l, h.next c.moved.from c.moved-test.true)

pub moved-smaller : goal.moved-smaller
moved-smaller c =
    grind (
      arith,
      follows_on _ _ _ _ _ _ c.sort_keys.invariant c.sort_keys-test.true c.moved.invariant
          c.moved-test.true,
    )

pub swap-requires-clause-j_in_bounds : goal.swap-requires-clause-j_in_bounds
swap-requires-clause-j_in_bounds c =
    let h = c.sort_keys.invariant in
    let size = h.size in
    let len = c.sort_keys.records.ok.0 in
    let at = found _ _ _ _ _ _ h c.sort_keys-test.true c.moved.invariant c.moved-test.false in
    omega (arith, at, size, len)

pub overflow_cast-sort_keys : goal.overflow_cast-sort_keys
overflow_cast-sort_keys c =
    let h = c.sort_keys.invariant in
    let few = c.requires.few in
    let at = found _ _ _ _ _ _ h c.sort_keys-test.true c.moved.invariant c.moved-test.false in
    omega (arith, at, few)

pub sort_keys-preserved : goal.sort_keys-preserved
sort_keys-preserved c =
    let inside = c.sort_keys-test.true in
    let ps = c.sort_keys.sort_keys in
    let to = c.sort_keys.to in
    let len = c.swap.ensures.len in
    let new = c.swap.new.self.ok.0 in
    let old = c.sort_keys.records.ok.0 in
    let here : to < length ps = omega (arith, inside, c.sort_keys.auto.sort_keys) in
    one_more _ _ _ _ ps _ to _ c.sort_keys.invariant inside c.moved.invariant c.moved-test.false
    c.swap.ensures.by_index (omega (arith, len, new, old))
    (ap (λ (p : SortKey). p.at) (get_or-set_same ps to _ no_sort_key here)) (length-set ps to _)
    (λ i n. get_or-set_other ps to i _ no_sort_key n)

pub returns : goal.returns
returns c =
    let test = c.sort_keys-test.false in
    let end = c.sort_keys.auto.to-end in
    let h = c.sort_keys.invariant in
    let count = h.count in
    let filled : c.sort_keys.to ≡ length c.args.sort_keys.now = omega (arith, test, end, count) in
    c.truncate.ensures.items
    ∙ ap (λ n. take n c.sort_keys.records.items) count
    ∙ all_gathered _ _ _ _ (subst (IsGathered _ _ _ _) filled h) c.requires.fewer
