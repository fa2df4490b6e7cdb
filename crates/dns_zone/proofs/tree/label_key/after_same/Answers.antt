use Rattle.dns_zone.proofs.Common.{rules, ◌≡◌, List, ℕ, map, take, drop, drop-map, take-append-drop, sym, ap, ap₂, ◌∙◌, length, nat_cmp, slice_cmp, Equal, ordering_then, nat_list_cmp_total, tied_itself, to_ascii_lowercase, label_order}
use Rattle.dns_spec.proofs.General.Orderings.{slice_cmp-append}
use Rattle.std.proofs.lemmas.List.{take-map}
use Rattle.dns_zone.proofs.tree.label_key.after_same.Goals as goal

-- a common prefix does not matter
after_front : (n : ℕ) (xs ys : List ℕ) → take n xs ≡ take n ys
    → slice_cmp nat_cmp (drop n xs) (drop n ys) ≡ slice_cmp nat_cmp xs ys
after_front n xs ys same =
    let tied : slice_cmp nat_cmp (take n xs) (take n ys) ≡ Equal =
    ap (slice_cmp nat_cmp (take n xs)) (sym same) ∙ tied_itself nat_list_cmp_total (take n xs) in
    ap (λ o. ordering_then o (slice_cmp nat_cmp (drop n xs) (drop n ys))) (sym tied)
    ∙ sym (slice_cmp-append nat_cmp (take n xs) (take n ys) (drop n xs) (drop n ys)
    (ap length same))
    ∙ ap₂ (slice_cmp nat_cmp) (take-append-drop n xs) (take-append-drop n ys)

-- after a common prefix a label in lower case remains in lower case, and the order is the same
after_lower : (n : ℕ) (xs ys : List ℕ) → map to_ascii_lowercase xs ≡ xs → take n xs ≡ take n ys
    → (map to_ascii_lowercase (drop n xs) ≡ drop n xs)
    × (label_order (drop n xs) (map to_ascii_lowercase (drop n ys))
    ≡ label_order xs (map to_ascii_lowercase ys))
after_lower n xs ys lower same =
    let front : take n xs ≡ take n (map to_ascii_lowercase ys) =
    sym (ap (take n) lower) ∙ take-map to_ascii_lowercase n xs ∙ ap (map to_ascii_lowercase) same
    ∙ sym (take-map to_ascii_lowercase n ys) in (
      sym (drop-map to_ascii_lowercase n xs) ∙ ap (drop n) lower,
      ap (label_order (drop n xs)) (sym (drop-map to_ascii_lowercase n ys))
          ∙ after_front n xs (map to_ascii_lowercase ys) front,
    )

pub eights-preserved : goal.eights-preserved
eights-preserved c =
    let inv = c.eights.invariant in
    let left = c.split_at.ensures in
    let right = c.split_at-in-eights.ensures in
    let same : c.split_at.result.0.now ≡ c.split_at-in-eights.result.0.now = search rules in
    let after = after_lower 8 c.eights.left.now c.eights.right.now inv.lower
    (sym left.front ∙ same ∙ right.front) in
    record {
      lower = ap (map to_ascii_lowercase) left.back ∙ after.0 ∙ sym left.back;
      order = ap₂ label_order left.back (ap (map to_ascii_lowercase) right.back) ∙ after.1
          ∙ inv.order;
    }
