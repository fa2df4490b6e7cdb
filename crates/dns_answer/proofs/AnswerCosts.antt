-- What the header states about a whole answer, and the cost of all of it.
use Rattle.dns_answer.proofs.Common.{◌≡◌, ℕ, ◌+◌, ◌*◌, ◌≤◌, ◌&&◌, not, List, [], ◌∷◌, map, sum, length, is_some, arith, eqb-true, false_from_ne_true, DomainName, ZoneContents, ◌==◌, most_aliases, follows_alias, alias_set, alias_items, chain, chain_from, has_any, outcome, is_authoritative, nodes_to, most_visits, most_comparisons, Walk, Took, labels_below, chain_rest, leads_on, sum_cons}
use Rattle.dns_answer.proofs.TargetLaws.{depths}
use Rattle.dns_answer.proofs.AnswerItems.{nodes-are, misses-are, speaks-unless}
use Rattle.dns_answer.proofs.ChainSteps.{last-name, none-shown}

nodes-sum : (z : ZoneContents) (ns : List DomainName)
    → sum (map (nodes_to z) ns) ≡ length ns + depths z ns
nodes-sum z [] = omega arith
nodes-sum z (n ∷ ns) = grind (arith, sum_cons, nodes_to, labels_below, (nodes-sum z ns))

module _ (z : ZoneContents) (q : DomainName) (t : ℕ) where
  -- an answer contains an alias if and only if one is found for the question's name
  aliases-shown :
      (length (alias_items z q t) == 0) ≡ not (follows_alias t && has_any (alias_set z q))
  unfolding chain chain_from
  aliases-shown = grind (arith, false_from_ne_true, eqb-true, last-name, none-shown)

  pub authority-is : is_authoritative (outcome z q t)
      ≡ not (is_some (chain_rest z t most_aliases [] q).outcome.referral && not (leads_on z t q))
  authority-is = speaks-unless z q t (leads_on z t q) aliases-shown

  chain-some : 1 ≤ length (chain z q t)
  unfolding chain chain_from
  chain-some = grind arith

  -- the visits, including the apex, are within the bound
  pub visits-fit : (s s' : Walk) (misses : ℕ) → s.visits ≤ 1
      → Took s s' (chain_rest z t most_aliases [] q).nodes misses → s'.visits ≤ most_visits z q t
  visits-fit s s' misses first took = grind (arith, nodes-are, nodes-sum, chain-some)

  pub comparisons-fit : (s s' : Walk) (nodes : ℕ) → s.comparisons ≤ 17 * s.visits → Took s s' nodes
      (chain_rest z t most_aliases [] q).misses → s'.comparisons ≤ most_comparisons z q t s'.visits
  comparisons-fit s s' nodes first took = let a = misses-are z q t in omega arith
