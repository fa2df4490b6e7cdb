use Rattle.dns_zone.proofs.Common.{rules, arith, ◌≡◌, length, take, drop, sym, ap, ◌∙◌, subst, slice_cmp, nat_cmp, Equal, IsEight}
use Rattle.dns_zone.proofs.SortKeyOrder.{take_min, drop_min}
use Rattle.dns_zone.proofs.order.sort_key.SortKey.of.Goals as goal

pub returns-in-Equal-clause-fronts : goal.returns-in-Equal-clause-fronts
returns-in-Equal-clause-fronts c =
    let o = c.args.origin.now in
    let key = c.args.key.now in
    let begin : c.split_at.result.0.now ≡ take (length o) key =
    c.split_at.ensures.front ∙ ap (λ k. take k key) c.min.ensures ∙ take_min (length o) key in
    let rest : c.split_at.result.1.now ≡ drop (length o) key =
    c.split_at.ensures.back ∙ ap (λ k. drop k key) c.min.ensures ∙ drop_min (length o) key in
    let next : c.split_at-in-Equal.result.1.now ≡ drop 8 (drop (length o) key) =
    c.split_at-in-Equal.ensures.back
    ∙ ap (λ k. drop k c.split_at.result.1.now) c.min-in-Equal.ensures
    ∙ drop_min 8 c.split_at.result.1.now ∙ ap (drop 8) rest in
    let side : slice_cmp nat_cmp (take (length o) key) o ≡ Equal =
    ap (λ xs. slice_cmp nat_cmp xs o) (sym begin) ∙ search rules in
    record {
      less = λ h. grind (arith, (side), (h));
      equal = λ h. (
        subst (IsEight c.eight_of.result) rest c.eight_of.ensures,
        subst (IsEight c.eight_of-in-Equal.result) next c.eight_of-in-Equal.ensures,
      );
      greater = λ h. grind (arith, (side), (h));
      front_fits = omega arith;
      next_fits = omega arith;
    }
