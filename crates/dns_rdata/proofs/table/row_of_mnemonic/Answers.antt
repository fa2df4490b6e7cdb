use Rattle.dns_rdata.proofs.Common.{Bor, octets_equal, type_table, text_in_lower_case, TypeRow, row_for}
use Rattle.dns_spec.proofs.General.Tests.{found_row}
use Rattle.dns_spec.specs.Data as Data
use Rattle.dns_rdata.proofs.table.row_of_mnemonic.Goals as goal

pub returns : goal.returns
returns c =
    found_row (λ (r : Bor TypeRow). r.now) row_for
    (λ (row : Data.TypeRow). octets_equal
    (text_in_lower_case c.args.word.now) (text_in_lower_case row.mnemonic))
    c.types.result.now type_table c.named_row.result c.named_row.ensures c.types.ensures
