-- The rest of an answer from a name of the chain of aliases on, and its cost.
use Rattle.std.specs.Prelude.{ℕ, ◌+◌, ◌-◌, ◌*◌, sum, List, [], ◌∷◌, ◌++◌, map, length, if◌then◌else◌}
use Rattle.std.specs.List.{flat_map}
use Rattle.dns_spec.specs.Names.{DomainName}
use Rattle.dns_spec.specs.Records.{ZoneContents}
use Rattle.dns_spec.specs.Layout.{answer, Item}
use Rattle.dns_spec.specs.Answer.{item, follows_alias, alias_set, chain_from, last_of, outcome_at}
use Rattle.dns_answer.specs.Ending.{Rest, ending}

-- the names sought from s on: s and at most k targets; `sought` are the names sought before s
abbrev pub names_from : ZoneContents → ℕ → ℕ → List DomainName → DomainName → List DomainName
names_from z t k sought s = if follows_alias t then chain_from z k sought s else s ∷ []

-- the CNAME sets of names, if a question for the type t follows aliases
abbrev pub aliases_of : ZoneContents → ℕ → List DomainName → List Item
aliases_of z t ns = if follows_alias t then flat_map (λ n. item answer (alias_set z n)) ns else []

-- RFC 1034 4.3.2 step 3a: the rest of an answer, if `ns` are the names sought from s on: the CNAME
-- sets of these names, and the sets that end the answer. Looking up a name meets at most two
-- missing children.
abbrev pub rest_of : ZoneContents → ℕ → DomainName → List DomainName → Rest
rest_of z t s ns =
    let r = ending z (outcome_at z t (last_of s ns)) in
    record {
      items = aliases_of z t ns ++ r.items;
      required = aliases_of z t ns ++ r.required;
      outcome = r.outcome;
      nodes = sum (map (λ n. length n - length z.origin) ns) + r.nodes;
      misses = 2 * length ns + r.misses;
    }

unfoldable pub chain_rest : ZoneContents → ℕ → ℕ → List DomainName → DomainName → Rest
chain_rest z t k sought s = rest_of z t s (names_from z t k sought s)
