use Rattle.dns_zone.proofs.Common.{rules, arith, ℕ, List, SortKey, take, take_at, drop, ◌++◌, sym, subst, length, ◌≤◌, ◌≡◌, ◌∙◌, IsPermutation, length_permutation, IsPermutation-trans, same_sort_key, sort_key_order, ap}
use Rattle.dns_zone.proofs.SortedKeys.{are_kept, are_sorted}
use Rattle.dns_zone.proofs.SortKeyOrder.{sort_key_order_total}
use Rattle.dns_zone.proofs.RisingKeys.{rising_sorted, rising_distinct}
use Rattle.dns_zone.specs.SortKeyForm.{RiseUpTo}
use Rattle.std.proofs.lemmas.Fn.{dedup_same}
use Rattle.dns_zone.proofs.order.sort.sort_distinct.Goals as goal

-- what the list holds after the sort keys that rise were moved
kept_items : (old new : List SortKey) (n : ℕ) → n ≡ length old → IsPermutation old new
    → take n (new ++ drop (length new) old) ≡ new
kept_items old new n len moved =
    let same = length_permutation old new moved in
    take_at new (drop (length new) old) n (omega (arith, same, len))

pub returns-in_ok-sort : goal.returns-in_ok-sort
returns-in_ok-sort c = λ o all.
    let keys = c.args.keys.now in
    let rs = c.args.records.now in
    let first = c.in-Some.first.now in
    let old_items = c.args.sort_keys.now.items in
    let ps = c.keep_rising-kept.new.sort_keys in
    let moved : IsPermutation old_items ps = subst (λ qs. IsPermutation qs ps)
    c.as_mut_slice.ensures.value c.keep_rising-kept.ensures.moved in
    let items = kept_items old_items ps c.args.sort_keys.now.len c.args.sort_keys.now.ok.0 moved in
    let is = dedup_same _ (same_sort_key rs first) _
    (λ x y b f' x' y' k. search rules) _ _ c.dedup_by.ensures.filtered in
    let bound = c.dedup_by.ensures.bound in
    let new = c.dedup_by.new.self.ok.0 in
    let old = c.sort.new.sort_keys.ok.0 in
    let fewer : length c.dedup_by.new.self.items ≤ length c.sort.new.sort_keys.items =
    omega (arith, bound, new, old) in
    are_kept o keys rs first c.requires _ _ all
    (IsPermutation-trans _ _ _ moved (subst (λ ps. IsPermutation ps c.sort.new.sort_keys.items) items
    c.in_ok-sort.ensures.0)) c.in_ok-sort.ensures.1 _ is fewer

pub returns-else-kept-len : goal.returns-else-kept-len
returns-else-kept-len c = λ o all.
    let keys = c.args.keys.now in
    let rs = c.args.records.now in
    let first = c.in-Some.first.now in
    let R = sort_key_order keys rs first in
    let ps = c.keep_rising-kept.new.sort_keys in
    let old_items = c.args.sort_keys.now.items in
    let moved : IsPermutation old_items ps = subst (λ qs. IsPermutation qs ps)
    c.as_mut_slice.ensures.value c.keep_rising-kept.ensures.moved in
    let none = c.if-kept-len.false in
    let count = c.keep_rising-kept.ensures.count in
    let len = c.len.ensures in
    let ok = c.args.sort_keys.now.ok.0 in
    let size = length_permutation _ _ moved in
    let rising : RiseUpTo R ps (length ps) = λ k h.
    c.keep_rising-kept.ensures.rising k (omega (arith, h, none, len, ok, size)) in
    let total = sort_key_order_total keys rs first in
    let distinct = rising_distinct R total ps rising in
    let same = kept_items old_items ps c.args.sort_keys.now.len ok moved in
    are_sorted o keys rs first c.requires _ _ all moved (rising_sorted R total ps rising) _
    (same ∙ sym distinct) (omega (arith, ap length same))
