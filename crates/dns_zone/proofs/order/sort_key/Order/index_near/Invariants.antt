use Rattle.dns_zone.proofs.Common.{◌≡◌, ◌<◌, get_or, Less, sort_key_order}
use Rattle.dns_zone.specs.SortKeyForm.{no_sort_key}
use Rattle.dns_zone.proofs.order.sort_key.Order.index_near.Given as goal

abbrev pub invariant-back : goal.invariant-back
invariant-back l = l.to < l.kept
    → sort_key_order l.self.keys.now l.self.records.now l.self.first.now
    (get_or l.sort_keys l.at no_sort_key) (get_or l.sort_keys l.to no_sort_key) ≡ Less
