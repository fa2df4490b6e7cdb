use Rattle.dns_wire.proofs.Common.{◌∙◌, sym, ap, subst, ◌++◌, slice_set, option_to_list, AreChains}
use Rattle.dns_wire.proofs.ChainLemmas.{chains_shrink}
use Rattle.dns_wire.proofs.suffix_offsets.SuffixOffsets.take_back.Goals as goal

pub invariant_of-self : goal.invariant_of-self
invariant_of-self g c =
    let e = c.in-Some.newest in
    let es = c.pop.new.self.items in
    let whole = c.pop.ensures.items ∙ ap (λ x. es ++ option_to_list x) c.in-Some.is in
    let shrunk = chains_shrink es e c.self.inside.heads
    (subst (AreChains c.self.inside.heads) whole c.self.invariant) in
    subst (λ k. AreChains (slice_set c.self.inside.heads k e.next) es)
    (sym c.chain_of.ensures.chain) shrunk
