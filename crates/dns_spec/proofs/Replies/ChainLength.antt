-- A chain of names sought has at most one name more than the aliases that are followed.
use Rattle.dns_spec.proofs.Common.{ℕ, zero, suc, ◌≤◌, ◌+◌, List, [], ◌∷◌, length, Option, None, Some, arith, DomainName, ZoneContents, most_aliases, next_sought, chain_from, chain}

chain_from_short : (z : ZoneContents) (k : ℕ) (sought : List DomainName) (s : DomainName)
    → length (chain_from z k sought s) ≤ k + 1
unfolding chain_from
chain_from_short z zero sought s = omega arith
chain_from_short z (suc k) sought s =
    go (next_sought z (s ∷ sought) s) (λ m. chain_from_short z k (s ∷ sought) m)
  where
    go : (o : Option DomainName) → ((m : DomainName)
        → length (chain_from z k (s ∷ sought) m) ≤ k + 1) → suc (length (elim o as
        (λ _. List DomainName) [ None ↦ [] | Some m ↦ chain_from z k (s ∷ sought) m ])) ≤ suc k + 1
    go None h = omega arith
    go (Some m) h = let rest = h m in omega (arith, rest)

pub chain_short : (z : ZoneContents) (q : DomainName) (t : ℕ)
    → length (chain z q t) ≤ 1 + most_aliases
unfolding chain
chain_short z q t = grind (arith, chain_from_short)
