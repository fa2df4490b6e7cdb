use Rattle.dns_zone.proofs.Common.{rules, nat_lt, ResourceRecord, IsPartitionPoint-from_clause, IsPartitionedBy-ltb}
use Rattle.dns_spec.proofs.General.Fronts.{halves}
use Rattle.dns_zone.proofs.order.lookup.count_below.Goals as goal

pub returns-clause-others : goal.returns-clause-others
returns-clause-others c =
    let rs = c.args.records.now in
    let t = c.args.rtype.0 in
    (halves (λ (r : ResourceRecord). nat_lt r.rtype t) rs _ c.partition_point.ensures.bound
    (IsPartitionPoint-from_clause (λ (r : ResourceRecord). nat_lt r.rtype t)
    rs _ c.partition_point.ensures.partitioned (IsPartitionedBy-ltb
    (λ (r : ResourceRecord). r.rtype) rs t c.requires) (λ a r q k. search rules))).1
