use Rattle.dns_zone.proofs.Common.{get_or, sym, ◌-◌}
use Rattle.dns_zone.proofs.RisingKeys.{turned}
use Rattle.dns_zone.specs.SortKeyForm.{no_sort_key}
use Rattle.dns_zone.proofs.order.sort_key.Order.index_near.Goals as goal

pub back-preserved : goal.back-preserved
back-preserved c = λ h. let ps = c.args.sort_keys.now in
    turned c.args.self.now.keys.now c.args.self.now.records.now c.args.self.now.first.now
    (get_or ps (c.back.to - 1) no_sort_key) (get_or ps c.args.at no_sort_key)
    (sym c.in-Greater.ensures)
