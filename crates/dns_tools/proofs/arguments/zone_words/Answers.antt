use Rattle.dns_tools.proofs.Common.{arith, sym, ◌∙◌}
use Rattle.dns_tools.proofs.LastArguments.{last_texts, same_end}
use Rattle.dns_tools.proofs.arguments.zone_words.Goals as goal
use Rattle.dns_tools.proofs.arguments.zone_words.Goals.{then-is_dashed-via-then-is_dashed, then-is_dashed-via-else-is_dashed+then-is_dashed-2}

pub returns-then-is_dashed-clause-none : goal.returns-then-is_dashed-clause-none
returns-then-is_dashed-clause-none g c e front z asked =
    let texts = last_texts g.S.AsStr.text _ _ _ _ _
    c.in_ok-file.ensures.cases.0 c.in_ok-origin.ensures.cases.0 in
    let same = same_end _ front _ _ _ _ (sym texts ∙ asked.words_are) in
    elim c.then-is_dashed.branch [
      | then-is_dashed-via-then-is_dashed w ↦
          grind (
            arith,
            same.1,
            asked.origin,
            c.as_str-origin.ensures,
            c.is_dashed.ensures,
            w.if-is_dashed,
          )
      | then-is_dashed-via-else-is_dashed+then-is_dashed-2 w ↦
          grind (
            arith,
            same.2,
            asked.file,
            c.as_str-file.ensures,
            w.is_dashed-else-is_dashed.ensures,
            w.if-is_dashed-2,
          )
    ]
