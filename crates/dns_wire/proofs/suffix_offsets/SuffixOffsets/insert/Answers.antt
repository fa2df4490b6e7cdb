use Rattle.dns_wire.proofs.Common.{◌≡◌, ap, subst, arith, length, suc, ◌∷◌, [], ◌++◌, slice_set, get_or, length-append, KeptOffset, chain_of, AreChains}
use Rattle.dns_wire.proofs.ChainLemmas.{chains_grow}
use Rattle.dns_wire.proofs.suffix_offsets.SuffixOffsets.insert.Goals as goal

pub invariant_of-self : goal.invariant_of-self
invariant_of-self g c =
    let h = c.args.number in
    let heads = c.self.inside.heads in
    let es = c.self.inside.entries.items in
    let e : KeptOffset =
    record { offset = c.args.offset; number = h; next = get_or heads c.chain_of.result 0 } in
    let grown = chains_grow es e heads c.self.invariant c.requires.reached
    (ap (λ k. get_or heads k 0) c.chain_of.ensures.chain) in
    let number : suc (length es) ≡ c.len.result = omega
    (arith, c.len.ensures.value, ap length c.push.ensures.items, length-append es (e ∷ [])) in
    rw (c.push.ensures.items, c.chain_of-2.ensures.chain)
    (subst (λ k. AreChains (slice_set heads (chain_of h) k) (es ++ e ∷ [])) number grown)
