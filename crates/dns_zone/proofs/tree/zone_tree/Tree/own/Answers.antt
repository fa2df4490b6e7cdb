use Rattle.dns_zone.proofs.Common.{List, sym, ap₂, ◌∙◌, subst, IsNonDecreasingBy, ResourceRecord, span, row_at, Row, node_at}
use Rattle.dns_zone.proofs.OwnRecords.{own_types}
use Rattle.dns_zone.proofs.NodeRows.{is_row}
use Rattle.dns_zone.proofs.tree.zone_tree.Tree.own.Goals as goal

pub returns-clause-own : goal.returns-clause-own
returns-clause-own c =
    let k = c.args.row.0 in
    ap₂ (λ (rows : List Row) (rs : List ResourceRecord).
    span rs (row_at rows k).first (row_at rows k).own_end) c.borrowed.ensures c.records.ensures.records
    ∙ (is_row c.args.self.now k c.requires).own

pub returns-clause-by_types : goal.returns-clause-by_types
returns-clause-by_types c =
    let t = c.args.self.now in
    subst (IsNonDecreasingBy (λ (r : ResourceRecord). r.rtype)) (sym (returns-clause-own c))
    (own_types t.zone (node_at t c.args.row.0).name c.requires.kept.built.ordered)
