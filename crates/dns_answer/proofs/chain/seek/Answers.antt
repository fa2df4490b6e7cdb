use Rattle.dns_answer.proofs.chain.seek.Goals as goal

pub returns-in-Alias-clause-seeks : goal.returns-in-Alias-clause-seeks
returns-in-Alias-clause-seeks g c =
    c.in-Alias.ensures.completes _ _ _ c.seek_targets-verdict.ensures
