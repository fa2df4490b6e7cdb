use Rattle.std.proofs.Common.{◌≡◌}
use Rattle.dns_wire_tests.proofs.tests.writing.offer.Given as goal

abbrev pub invariant-records : goal.invariant-records
invariant-records g l = l.writer.builder.limit ≡ l.initial.writer.builder.limit
