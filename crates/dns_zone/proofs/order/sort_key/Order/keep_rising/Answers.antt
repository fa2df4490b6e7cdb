use Rattle.dns_zone.proofs.Common.{arith, ◌+◌, ◌≤◌, IsPermutation-trans, length_permutation, sort_key_order}
use Rattle.std.proofs.lemmas.List.Sorted.{IsPermutation-put_mid}
use Rattle.dns_zone.proofs.RisingKeys.{rise_rotated, rise_swapped}
use Rattle.dns_zone.proofs.order.sort_key.Order.keep_rising.Goals as goal
use Rattle.dns_zone.proofs.order.sort_key.Order.keep_rising.Goals.{in-Some+then-kept-to-lt-NEAR, in-Some+else-kept-to-lt-NEAR, in_default}

pub sort_keys-preserved : goal.sort_keys-preserved
sort_keys-preserved c =
    let before = c.sort_keys.invariant in
    let kept = before.kept in
    let count = before.count in
    let inside = c.sort_keys-test.true in
    let ps = c.sort_keys.sort_keys in
    let n = c.sort_keys.kept in
    let at = c.sort_keys.at in
    let order = c.args.self.now in
    let R = sort_key_order order.keys.now order.records.now order.first.now in
    elim c.match-index_near.branch [
      | in-Some+then-kept-to-lt-NEAR w ↦
          let next : n + 1 ≤ at + 1 = omega (arith, kept) in
          let to = w.in-Some.ensures in
          let swap = w.swap.ensures in
          let rotated = w.rotate_right.ensures in
          let first = IsPermutation-trans _ _ _ before.moved swap.permutation in
          let moved = IsPermutation-trans c.args.sort_keys.now w.swap.new.self _ first
          (IsPermutation-put_mid _ _ _ _ rotated.permutation) in
          rw (w.sort_keys-is, w.kept-is) (record {
            kept = next;
            count = length_permutation _ _ moved;
            moved = moved;
            rising = rise_rotated R ps n at before.rising w.swap.new.self w.rotate_right.new.self
                w.in-Some.to kept swap.by_index to.bound (omega (arith, inside, count)) swap.len
                rotated.by_index rotated.len to.after to.before;
          })
      | in-Some+else-kept-to-lt-NEAR w ↦
          let to = w.in-Some.ensures in
          let bound = to.bound in
          let swap = w.swap-else-kept-to-lt-NEAR.ensures in
          let qs = w.swap-else-kept-to-lt-NEAR.new.self in
          let len = swap.len in
          rw (w.sort_keys-is, w.kept-is) (record {
            kept = omega (arith, kept, bound);
            count = omega (arith, count, len);
            moved = IsPermutation-trans _ _ _ before.moved swap.permutation;
            rising = rise_swapped R ps w.in-Some.to at
                (λ k h. before.rising k (omega (arith, h, bound))) qs (omega (arith, kept, bound))
                swap.by_index to.after;
          })
      | in_default w ↦
          rw (w.sort_keys-is, w.kept-is) (record {
            kept = omega (arith, kept);
            count = count;
            moved = before.moved;
            rising = before.rising;
          })
    ]
