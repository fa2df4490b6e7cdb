use Rattle.dns_name.proofs.Common.{rules}
use Rattle.dns_name.proofs.WritesLemmas.{beginning_of_parts}
use Rattle.dns_spec.proofs.General.Results.{OnErr-always}
use Rattle.dns_name.proofs.tally.Tally.write_parts.Goals as goal

pub returns-in_err-write_all : goal.returns-in_err-write_all
returns-in_err-write_all g c = record {
  ok = search rules;
  err = OnErr-always c.from_residual.result (beginning_of_parts
      _ _ _ _ _ _ c.parts-test.true c.parts.invariant.written c.in_err-write_all.ensures.err);
  counted = search rules;
}
