use Rattle.dns_zone.proofs.Common.{◌≡◌, ◌≤◌, length, IsPermutation, sort_key_order}
use Rattle.dns_zone.specs.SortKeyForm.{RiseUpTo}
use Rattle.dns_zone.proofs.order.sort_key.Order.keep_rising.Given as goal

abbrev pub invariant-sort_keys : goal.invariant-sort_keys
invariant-sort_keys l = record {
  kept : l.kept ≤ l.at;
  count : length l.sort_keys ≡ length l.fn.sort_keys;
  moved : IsPermutation l.fn.sort_keys l.sort_keys;
  rising : RiseUpTo (sort_key_order l.self.keys.now l.self.records.now l.self.first.now)
      l.sort_keys l.kept;
}
