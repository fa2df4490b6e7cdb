-- The chains stay intact when an entry is added at the end, or the last one is removed.
use Rattle.dns_wire.proofs.Common.{◌≡◌, ap₂, ◌-◌, ℕ, zero, suc, ◌<◌, ◌≤◌, ◌==◌, cond, List, [], ◌∷◌, ◌++◌, map, length, replicate, get_or, slice_get, slice_set, option_map, Some, refl, sym, ◌∙◌, subst, arith, length-append, false≢true, eqb-true, eq-eqb, leb-false, slice_get_within, slice_get-map, slice_get-get_or, get_or-set_same, get_or-set_other, get_or-replicate, get_or_append_left, get_or_push, length-map, length-set, length-replicate, mod_below, KeptOffset, kept_in, chain_of, entry_at, last_with, AreChains}

last_bound : (h : ℕ) (es : List KeptOffset) (k : ℕ) → last_with h es k ≤ k
last_bound h es zero = omega arith
last_bound h es (suc k) = grind (arith, (last_bound h es k))

-- one more entry
module _ (es : List KeptOffset) (e : KeptOffset) where
  same_before : (k : ℕ) → k < length es → entry_at (es ++ e ∷ []) k ≡ entry_at es k
  same_before k low = get_or_append_left es (e ∷ []) _ k low

  at_end : entry_at (es ++ e ∷ []) (length es) ≡ e
  at_end = get_or_push es e _ (length es) refl

  last_before : (h k : ℕ) → k ≤ length es → last_with h (es ++ e ∷ []) k ≡ last_with h es k
  last_before h zero low = refl
  last_before h (suc k) low = ap₂ (λ (x : KeptOffset) m. cond (chain_of x.number == h) (suc k) m)
      (same_before k (omega (arith, low))) (last_before h k (omega (arith, low)))

  last_now : (h : ℕ) → last_with h (es ++ e ∷ []) (length (es ++ e ∷ []))
      ≡ cond (chain_of e.number == h) (suc (length es)) (last_with h es (length es))
  last_now h = grind (arith, length-append, at_end, last_before)

  -- the head of the new entry's chain is set, and the other heads stay
  set_head : (heads : List ℕ) (to k h : ℕ) → length heads ≡ 128 → (k ≡ cond (chain_of e.number == h)
      to (get_or heads h 0)) → get_or (slice_set heads (chain_of e.number) to) h 0 ≡ k
  set_head heads to k h all is =
      grind (arith, get_or-set_same, get_or-set_other, false≢true, eq-eqb)

  pub chains_grow : (heads : List ℕ)
      → AreChains heads es → e.offset < 16384 → e.next ≡ get_or heads (chain_of e.number) 0
      → AreChains (slice_set heads (chain_of e.number) (suc (length es))) (es ++ e ∷ [])
  chains_grow heads c reach next =
      grind (arith, length-set, set_head, length-append, last_before, at_end, same_before)

  pub chains_shrink : (heads : List ℕ)
      → AreChains heads (es ++ e ∷ []) → AreChains (slice_set heads (chain_of e.number) e.next) es
  chains_shrink heads c = record {
    all = length-set heads (chain_of e.number) e.next ∙ c.all;
    newest = λ h low. grind (arith, (c.newest h low), last_now, set_head, link, eqb-true);
    linked = λ k low.
        let l = c.linked k (omega (arith, low, length-append es (e ∷ []))) in
        grind (arith, l, same_before, last_before);
  }
    where
      link : e.next ≡ last_with (chain_of e.number) es (length es)
      link = grind (arith, last_with, chain_of, at_end, length-append, last_before)

-- without entries
pub chains_begin : AreChains (replicate 128 0) []
chains_begin = record {
  all = length-replicate {A = ℕ} 128 0;
  newest = λ h low. get_or-replicate 128 h 0 0 low;
  linked = λ k low. absurd (omega arith);
}

-- `number` is the index, counted from 1, of an entry of chain h, or 0 at the end of the chain. P
-- holds for no later entry of the chain.
pub record Chain (P : KeptOffset → Type 0) (h : ℕ) (es : List KeptOffset) (number : ℕ) : Type 0
  where
    pub inside : number ≤ length es
    pub here : (k : ℕ) → number ≡ suc k → chain_of (entry_at es k).number ≡ h
    pub after : (k : ℕ)
        → k < length es → number ≤ k → chain_of (entry_at es k).number ≡ h → P (entry_at es k) → ⊥

-- the entry at a number counted from 1
pub read_entry : {es xs : List KeptOffset} {number i : ℕ}
    → 0 < number → xs ≡ es → i ≡ number → (k : ℕ) × (number ≡ suc k)
    × (get_or xs (i - 1) (record { offset = 0; number = 0; next = 0 }) ≡ entry_at es k)
read_entry {number = number} positive same at = (
  number - 1,
  omega (arith, positive),
  ap₂ (λ ys n. get_or ys (n - 1) (record { offset = 0; number = 0; next = 0 })) same at,
)

module _ (P : KeptOffset → Type 0) (h : ℕ) (es : List KeptOffset) where
  chain_at : (m : ℕ) → m ≤ length es → ((k : ℕ) → k < length es → m ≤ k → chain_of
      (entry_at es k).number ≡ h → P (entry_at es k) → ⊥) → Chain P h es (last_with h es m)
  chain_at zero inside none =
      record { inside = omega arith; here = λ k e. absurd (omega (arith, e)); after = none }
  chain_at (suc m) inside none = grind (arith, (chain_at m), eq-eqb)

  pub chain_begins : (heads : List ℕ)
      → AreChains heads es → h < 128 → Chain P h es (get_or heads h 0)
  chain_begins heads c low = grind (arith, chain_at)

  pub chain_next : (heads : List ℕ) (k : ℕ) → AreChains heads es → Chain P h es (suc k)
      → (P (entry_at es k) → ⊥) → Chain P h es (entry_at es k).next × ((entry_at es k).next ≤ k)
  chain_next heads k c chain other = grind (arith, last_bound, chain_at)

-- the pair that an entry represents
pub entry_kept : (es : List KeptOffset) (k : ℕ)
    → k < length es → slice_get (map kept_in es) k ≡ Some (kept_in (entry_at es k))
entry_kept es k low = grind (arith, slice_get-map, kept_in, option_map, slice_get-get_or)

pub kept_entry : (es : List KeptOffset) (k p h : ℕ)
    → slice_get (map kept_in es) k ≡ Some (record { offset = p; number = h })
    → (k < length es) × ((entry_at es k).number ≡ h) × ((entry_at es k).offset ≡ p)
kept_entry es k p h at = grind (arith, slice_get_within, length-map, entry_kept)
