use Rattle.dns_name.proofs.Common.{ap, sym, ◌∙◌, is_name, length-is_name}
use Rattle.dns_name.proofs.name_ref.NameRef.labels.Goals as goal

pub returns-clause-count : goal.returns-clause-count
returns-clause-count c =
    length-is_name _ (ap is_name (sym c.self.view_is) ∙ c.self.invariant.is_name)
