use Rattle.dns_zone.proofs.Common.{rules, is_lt, always_returns_same, ranks_by, sort_key_order}
use Rattle.dns_zone.proofs.SortKeyOrder.{sort_key_order_total}
use Rattle.dns_zone.proofs.order.sort_key.Order.sort.Goals as goal

pub returns-then-len-kept : goal.returns-then-len-kept
returns-then-len-kept c =
    let keys = c.args.self.now.keys.now in
    let rs = c.args.self.now.records.now in
    let first = c.args.self.now.first.now in (
      c.sort_unstable_by.ensures.permutation,
      c.sort_unstable_by.ensures.sorted (λ p q. is_lt (sort_key_order keys rs first p q))
          (ranks_by (sort_key_order_total keys rs first) (λ p. p))
          (always_returns_same _ _ _ (λ a r f' k. search rules)),
    )

pub returns : goal.returns
returns c =
    let keys = c.args.self.now.keys.now in
    let rs = c.args.self.now.records.now in
    let first = c.args.self.now.first.now in (
      c.sort_by.ensures.permutation,
      c.in_ok-sort_by.ensures.sorted (λ p q. is_lt (sort_key_order keys rs first p q))
          (ranks_by (sort_key_order_total keys rs first) (λ p. p))
          (always_returns_same _ _ _ (λ a r f' k. search rules)),
    )
