use Rattle.dns_tools.proofs.Common.{drop, flat_map, question_line}
use Rattle.dns_tools.proofs.LineParts.{IsLeft}
use Rattle.dns_tools.proofs.message.write_questions.Given as goal

-- the remaining lines are still to be written
abbrev pub invariant-questions : goal.invariant-questions
invariant-questions g l =
    IsLeft g.W.Write.contents l.initial.sink l.sink (flat_map question_line l.questions)
    (flat_map question_line (drop l.question-index l.questions))
