use Rattle.dns_rdata.proofs.Common.{◌==◌, Bor, type_table, TypeRow, row_for}
use Rattle.dns_spec.proofs.General.Tests.{found_row}
use Rattle.dns_spec.specs.Data as Data
use Rattle.dns_rdata.proofs.table.row_of_type.Goals as goal

pub returns : goal.returns
returns c =
    found_row (λ (r : Bor TypeRow). r.now) row_for
    (λ (row : Data.TypeRow). row.number == c.args.rtype.0) c.types.result.now type_table
    c.numbered_row.result c.numbered_row.ensures c.types.ensures
