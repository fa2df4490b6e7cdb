use Rattle.dns_zone.proofs.Common.{◌≡◌, ◌++◌, drop, filter, flat_map, record_line, AppendsAllBut, is_chosen}
use Rattle.dns_zone.proofs.printed.put_chosen.Given as goal

-- the chosen records among the remaining records are still to be written
abbrev pub invariant-records : goal.invariant-records
invariant-records g l = record {
  fills : AppendsAllBut
      (g.W.Write.contents l.initial.sink.device) (g.W.Write.contents l.sink.device)
      (l.initial.text ++ flat_map record_line (filter (is_chosen l.is_soa) l.records))
      (l.text ++ flat_map record_line (filter (is_chosen l.is_soa) (drop l.entry-index l.records)));
  counted : l.sink.failures ≡ l.initial.sink.failures;
}
