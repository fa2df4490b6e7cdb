use Rattle.dns_name.proofs.WrittenLemmas.{NameSoFar}
use Rattle.dns_name.proofs.name_ref.NameRef.append_text.Given as goal

abbrev pub invariant-labels : goal.invariant-labels
invariant-labels l = NameSoFar l.fn.text l.self l.text l.label-iterator
