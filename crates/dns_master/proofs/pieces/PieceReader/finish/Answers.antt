use Rattle.dns_master.proofs.Common.{rules, subst, none-some, Octets, fault_at, ReaderMeans, fault_handed_on}
use Rattle.dns_master.proofs.PieceSteps.{all-faulty, all-added, all-too_long}
use Rattle.dns_master.proofs.Refusals.{refused, entry-told, OfEntry-map}
use Rattle.dns_master.proofs.pieces.PieceReader.finish.Goals as goal

pub returns-in_err-take_entries-clause-err : goal.returns-in_err-take_entries-clause-err
returns-in_err-take_entries-clause-err g c =
    fault_handed_on c.from_residual.result c.in_err-take_entries.field-0.0
    _ c.from_residual.ensures.1 (OfEntry-map c.in_err-take_entries.field-0.0
    (λ fault line h. subst (λ (x : Octets). ReaderMeans c.args.self.reader c.args.goes_on x
    (fault_at fault line)) c.as_slice.ensures.value (all-faulty c.args.goes_on
    c.args.self.reader c.as_slice.result.now fault line h)) c.in_err-take_entries.ensures.err)

pub returns-then-goes_on-clause-err : goal.returns-then-goes_on-clause-err
returns-then-goes_on-clause-err g c = search (rules, entry-told, refused, all-too_long, none-some)

pub returns-clause-ok : goal.returns-clause-ok
returns-clause-ok g c = search (rules, all-added, none-some)
