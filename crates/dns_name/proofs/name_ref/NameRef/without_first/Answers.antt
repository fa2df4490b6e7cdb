use Rattle.dns_name.proofs.Common.{◌≡◌, ℕ, drop, ap, ◌∙◌, DomainName}
use Rattle.dns_name.proofs.OrderLemmas.{drop-next}
use Rattle.dns_name.proofs.name_ref.NameRef.without_first.Goals as goal

dropped : (s n : DomainName) (j k : ℕ) → s ≡ drop j n → j ≡ k → s ≡ drop k n
dropped s n j k e f = e ∙ ap (λ i. drop i n) f

pub extra-preserved : goal.extra-preserved
extra-preserved c =
    drop-next _ _ c.args.self.now _ c.extra.counter c.extra.invariant c.next.ensures.steps
