use Rattle.dns_answer.proofs.Common.{◌≤◌, [], ◌∷◌, length, most_aliases, Completes, MaySeek, names_of, aliases_left}
use Rattle.dns_answer.proofs.chain.seek_targets.Given as goal

-- the result of seeking the names so far
abbrev pub invariant-names : goal.invariant-names
invariant-names g l = record {
  led : Completes l.fn.builder l.builder l.fn.steps l.steps l.fn.qtype (l.fn.first.name ∷ [])
      (names_of l.earlier.items) l.fn.target.name l.sought.name;
  may : MaySeek l.steps l.apex l.earlier.items l.sought;
  few : length l.earlier.items ≤ most_aliases;
}

abbrev pub decreases-names : goal.decreases-names
decreases-names g l = aliases_left (names_of l.earlier.items)
