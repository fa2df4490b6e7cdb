use Rattle.dns_spec.proofs.Common.{subst}
use Rattle.dns_serve.specs.Framing.{IsNew}
use Rattle.dns_connections.proofs.Serving.{fresh}
use Rattle.dns_connections.proofs.peer.Peer.new.Goals as goal

pub invariant_of-result-clause-serves : goal.invariant_of-result-clause-serves
invariant_of-result-clause-serves g c =
    let new = subst (λ most. IsNew most c.in-Ok.session) c.requires.most c.in-Ok.ensures in
    ∣ fresh _ _ _ _ _ new c.in-Ok-with_capacity.ensures.items c.requires.fresh ∣₁
