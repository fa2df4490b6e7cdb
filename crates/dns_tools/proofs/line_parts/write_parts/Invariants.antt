use Rattle.dns_tools.proofs.Common.{◌≡◌, ◌++◌, drop, flat_map, part_text, parts_text, AppendsAllBut}
use Rattle.dns_tools.proofs.line_parts.write_parts.Given as goal

-- the remaining parts are still to be put
abbrev pub invariant-parts : goal.invariant-parts
invariant-parts g l = record {
  fills : AppendsAllBut
      (g.W.Write.contents l.initial.sink.device) (g.W.Write.contents l.sink.device)
      (parts_text l.parts) (l.text ++ flat_map part_text (drop l.part-index l.parts));
  counted : l.sink.failures ≡ l.initial.sink.failures;
}
