use Rattle.dns_zone.proofs.Common.{rules, ◌≡◌, ◌==◌, ◌-◌, ◌<◌, length, get_or, arith, sym, ap, ◌∙◌, subst, filter, take_rest, IsPartitionedBy, IsPartitionPoint-from_clause, ResourceRecord}
use Rattle.dns_zone.proofs.Types.{type_parted, type_others, all_of_type, none_above, none_below}
use Rattle.dns_zone.proofs.order.lookup.of_type.Goals as goal
use Rattle.dns_zone.proofs.order.lookup.of_type.Goals.{then-rtype-first-via-then-rtype-first, then-rtype-first-via-else-rtype-first+then-last-rtype}
use Rattle.dns_spec.proofs.General.Fronts.{halves}

pub returns-then-rtype-first : goal.returns-then-rtype-first
returns-then-rtype-first c =
    let rs = c.args.records.now in
    let t = c.args.rtype.0 in
    let first : (d : ResourceRecord) → (get_or rs 0 d).rtype ≡ c.first-2.inside.rtype.0 =
    search rules in
    let last : (d : ResourceRecord)
    → (get_or rs (length rs - 1) d).rtype ≡ c.last-2.inside.rtype.0 = search rules in
    elim c.then-rtype-first.branch [
      | then-rtype-first-via-then-rtype-first w ↦
          none_above t rs c.requires (λ d. omega (arith, first d, w.if-rtype-first))
      | then-rtype-first-via-else-rtype-first+then-last-rtype w ↦
          none_below t rs c.requires (λ d. omega (arith, last d, w.if-last-rtype))
    ]

pub returns-then-eq : goal.returns-then-eq
returns-then-eq c =
    let rs = c.args.records.now in
    let t = c.args.rtype.0 in
    let some : 0 < length rs = search rules in
    let first : (d : ResourceRecord) → (get_or rs 0 d).rtype ≡ c.first-2.inside.rtype.0 =
    search rules in
    let last : (d : ResourceRecord)
    → (get_or rs (length rs - 1) d).rtype ≡ c.last-2.inside.rtype.0 = search rules in
    let same : c.first-2.inside.rtype.0 ≡ c.last-2.inside.rtype.0 = search rules in
    all_of_type t rs c.requires some
    (λ d. omega (arith, first d, same, c.if-rtype-first.false, c.if-last-rtype.false))
    (λ d. omega (arith, last d, same, c.if-rtype-first.false, c.if-last-rtype.false))

pub returns : goal.returns
returns c =
    let rs = c.args.records.now in
    let t = c.args.rtype.0 in
    let p = λ (r : ResourceRecord). r.rtype == t in
    let others = take_rest rs c.count_below.result ∙ c.count_below.ensures.others in
    (halves p _ _ c.partition_point.ensures.bound
    (IsPartitionPoint-from_clause p _ _ c.partition_point.ensures.partitioned
    (subst (IsPartitionedBy p) (sym others) (type_parted t rs c.requires))
    (λ a r q k. search rules))).0 ∙ ap (filter p) others ∙ type_others t rs
