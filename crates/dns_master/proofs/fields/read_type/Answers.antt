use Rattle.dns_master.proofs.Common.{rules, ap, sym, subst, false≢true, Octets, Word, NamesType, one_type}
use Rattle.dns_master.proofs.fields.read_type.Goals as goal

pub returns-in_err-rtype : goal.returns-in_err-rtype
returns-in_err-rtype c = rw c.from_residual.ensures (λ t h.
    let none = c.in_err-rtype.ensures in
    none t (subst
    (λ (raw : Octets). NamesType raw t) (ap (λ (w : Word). w.raw) (sym c.word.view_is)) h.1))

pub returns-then-matches : goal.returns-then-matches
returns-then-matches c = search (rules, one_type, false≢true)
