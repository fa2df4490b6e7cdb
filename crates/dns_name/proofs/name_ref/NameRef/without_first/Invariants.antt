use Rattle.dns_name.proofs.Common.{◌≡◌, drop}
use Rattle.dns_name.proofs.name_ref.NameRef.without_first.Given as goal

abbrev pub invariant-extra : goal.invariant-extra
invariant-extra l = l.labels ≡ drop l.counter l.self
