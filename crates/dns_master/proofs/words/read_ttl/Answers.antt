use Rattle.dns_master.proofs.Common.{rules, ap, sym, ◌∙◌, Word}
use Rattle.dns_master.proofs.words.read_ttl.Goals as goal

pub returns-clause-value : goal.returns-clause-value
returns-clause-value c = λ n.
    let same = ap (λ (w : Word). w.raw) (sym c.word.view_is) in (
      λ e. let said = (c.read_number.ensures n).0 e in (search rules, same ∙ said.0, said.1),
      λ h. (c.read_number.ensures n).1 (sym same ∙ h.1, h.2),
    )

pub returns-clause-short : goal.returns-clause-short
returns-clause-short c = λ n e. ((c.read_number.ensures n).0 e).1
