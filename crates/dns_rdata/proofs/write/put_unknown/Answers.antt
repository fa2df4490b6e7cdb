use Rattle.dns_rdata.proofs.Common.{rules, flat_map-append, append-nil, append_assoc, arith, OnErr-always, held_before, held_more, held_less, held_begun}
use Rattle.dns_rdata.proofs.write.put_unknown.Goals as goal

-- the mark, the length and a space are put first, and then the octets as one word
pub chunks-init : goal.chunks-init
chunks-init g c = grind (arith, append_assoc, append-nil, held_before)

pub returns-in_err-reserve-2 : goal.returns-in_err-reserve-2
returns-in_err-reserve-2 g c = record {
  ok = search rules;
  err = OnErr-always c.from_residual-in_err-reserve-2.result
      (held_begun _ _ _ _ _ _ c.chunks.invariant.fills c.in_err-reserve-2.ensures.fills.err);
  counted = search rules;
}

pub chunks-preserved : goal.chunks-preserved
chunks-preserved g c = grind (arith, held_more, held_less, flat_map-append)
