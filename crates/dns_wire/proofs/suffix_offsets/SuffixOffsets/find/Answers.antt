use Rattle.dns_wire.proofs.Common.{◌≡◌, ◌-◌, ◌<◌, ◌≤◌, ◌∙◌, ℕ, suc, length, sym, ap, subst, arith, get_or, slice_get, Some, false≢true, KeptOffset, chain_of, entry_at, kept_in, SpelledAt}
use Rattle.dns_wire.proofs.ChainLemmas.{Chain, read_entry, chain_begins, chain_next, entry_kept, kept_entry}
use Rattle.dns_wire.proofs.suffix_offsets.SuffixOffsets.find.Goals.{else-entry-number-via-then-entry-number+else-is_spelled, else-entry-number-via-else-entry-number}
use Rattle.dns_wire.proofs.suffix_offsets.SuffixOffsets.find.Goals as goal
use Rattle.dns_wire.proofs.suffix_offsets.SuffixOffsets.find.Given as given

pub chain-init : goal.chain-init
chain-init g c =
    let es = c.self.inside.entries.items in
    let P = λ (e : KeptOffset). (e.number ≡ c.args.number)
    × SpelledAt c.args.message.now e.offset c.args.suffix.now in
    let begun = chain_begins P (chain_of c.args.number) es c.self.inside.heads c.self.invariant
    (omega (arith, c.chain_of.ensures.low, c.chain_of.ensures.chain)) in
    subst (λ k. Chain P (chain_of c.args.number) es (get_or c.self.inside.heads k 0))
    (sym c.chain_of.ensures.chain) begun

module _ (g : given.Over) (c : goal.Then-is_spelled g) where
  found : (k : ℕ) × (c.chain.newest ≡ suc k) × (get_or c.as_slice.result.now (c.from.result - 1)
      (record { offset = 0; number = 0; next = 0 }) ≡ entry_at c.self.inside.entries.items k)
  found = let positive = c.chain-test.true in
      read_entry (omega (arith, positive)) c.as_slice.ensures.value c.from.ensures

  low : found.0 < length c.self.inside.entries.items
  low = let inside = c.chain.invariant.inside in let is = found.1 in omega (arith, inside, is)

pub returns-then-is_spelled-clause-kept : goal.returns-then-is_spelled-clause-kept
returns-then-is_spelled-clause-kept g c =
    let r = found g c in
    let e = get_or c.as_slice.result.now
    (c.from.result - 1) (record { offset = 0; number = 0; next = 0 }) in (
      r.0,
      ap (λ x. slice_get x r.0) (sym c.self.view_is) ∙ entry_kept
          c.self.inside.entries.items r.0 (low g c) ∙ ap (λ (x : KeptOffset). Some (kept_in x)) (sym
          r.2)
          ∙ ap (λ n. Some (record { offset = e.offset; number = n })) c.if-entry-number.true,
    )

pub returns-then-is_spelled-clause-reached : goal.returns-then-is_spelled-clause-reached
returns-then-is_spelled-clause-reached g c = grind (arith, found, low)

module _ (g : given.Over) (c : goal.Joined-else-entry-number g) where
  passed : (k : ℕ) × (c.chain.newest ≡ suc k) × (get_or c.as_slice.result.now (c.from.result - 1)
      (record { offset = 0; number = 0; next = 0 }) ≡ entry_at c.self.inside.entries.items k)
  passed = let positive = c.chain-test.true in
      read_entry (omega (arith, positive)) c.as_slice.ensures.value c.from.ensures

  -- the chain continues after the entry, which is not the one sought
  next : Chain (λ (e : KeptOffset). (e.number ≡ c.args.number)
      × SpelledAt c.args.message.now e.offset c.args.suffix.now) (chain_of c.args.number)
      c.self.inside.entries.items (entry_at c.self.inside.entries.items passed.0).next
      × ((entry_at c.self.inside.entries.items passed.0).next ≤ passed.0)
  next =
      let P = λ (e : KeptOffset). (e.number ≡ c.args.number)
      × SpelledAt c.args.message.now e.offset c.args.suffix.now in
      let es = c.self.inside.entries.items in
      let other : P (entry_at es passed.0) → ⊥ =
      λ there. let sought = subst P (sym passed.2) there in elim c.else-entry-number.branch [
        | else-entry-number-via-then-entry-number+else-is_spelled w ↦
            false≢true (sym w.if-is_spelled.false ∙ w.is_spelled.ensures.no
            (subst (λ q. SpelledAt c.args.message.now q c.args.suffix.now)
            (sym w.from-then-entry-number.ensures) sought.1))
        | else-entry-number-via-else-entry-number w ↦ w.if-entry-number.false sought.0
      ] in
      chain_next P (chain_of c.args.number) es c.self.inside.heads passed.0 c.self.invariant
      (subst (Chain P (chain_of c.args.number) es) passed.1 c.chain.invariant) other

pub chain-smaller : goal.chain-smaller
chain-smaller g c =
    let r = passed g c in
    let low = (next g c).1 in
    omega (arith, low, r.1, ap (λ (e : KeptOffset). e.next) r.2)

pub chain-preserved : goal.chain-preserved
chain-preserved g c =
    subst (λ (e : KeptOffset). Chain (λ (e : KeptOffset). (e.number ≡ c.args.number)
    × SpelledAt c.args.message.now e.offset c.args.suffix.now) (chain_of c.args.number)
    c.self.inside.entries.items e.next) (sym (passed g c).2) (next g c).0

pub returns-clause-none : goal.returns-clause-none
returns-clause-none g c = grind (arith, kept_entry, slice_get)
