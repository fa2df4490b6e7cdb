use Rattle.dns_zone.proofs.Common.{rules, IsPartitionPoint-from_clause, is_upto}
use Rattle.dns_spec.proofs.General.Fronts.{halves}
use Rattle.dns_zone.proofs.names.count_upto.Goals as goal

pub returns : goal.returns
returns c =
    let p = is_upto c.args.key.now in
    let names = c.args.names.now in
    let parts =
    halves p names _ c.partition_point.ensures.bound
    (IsPartitionPoint-from_clause p names _ c.partition_point.ensures.partitioned c.requires
    (λ a r q k. search rules)) in
    record {
      bound = c.partition_point.ensures.bound;
      passing = parts.0;
      others = parts.1;
    }
