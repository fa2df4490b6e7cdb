use Rattle.dns_zone.proofs.Common.{rules, OnErr-always, printed_moves, zone_means}
use Rattle.dns_zone.proofs.PrintedRecords.{text_of_ordered}
use Rattle.dns_zone.proofs.checked.CheckedZone.print.Goals as goal

pub returns-clause-writes : goal.returns-clause-writes
returns-clause-writes g c = search (rules, text_of_ordered)

pub returns-in_err-write_records-clause-writes : goal.returns-in_err-write_records-clause-writes
returns-in_err-write_records-clause-writes g c = search (rules, text_of_ordered, OnErr-always)

pub returns-clause-meaning : goal.returns-clause-meaning
returns-clause-meaning g c = λ types short o.
    (zone_means
    c.args.self.now o c.records.ensures.built.each types c.records.ensures.built.few short).0

pub returns-clause-same_records : goal.returns-clause-same_records
returns-clause-same_records g c = printed_moves c.args.self.now

pub returns-in_err-write_records-clause-meaning : goal.returns-in_err-write_records-clause-meaning
returns-in_err-write_records-clause-meaning g c = λ types short o.
    (zone_means
    c.args.self.now o c.records.ensures.built.each types c.records.ensures.built.few short).0

pub returns-in_err-write_records-clause-same_records :
    goal.returns-in_err-write_records-clause-same_records
returns-in_err-write_records-clause-same_records g c = printed_moves c.args.self.now
