use Rattle.dns_tools.proofs.Common.{refl, question_line}
use Rattle.dns_tools.proofs.LineParts.{piece_begun, piece_written}
use Rattle.dns_tools.proofs.message.write_questions.Goals as goal

pub questions-preserved : goal.questions-preserved
questions-preserved g c =
    piece_written question_line c.args.questions.now c.questions-test.true c.question-item.is
    c.questions.invariant
    (rw (c.as_slice.ensures, c.borrowed.ensures.value, ← c.question.view_is) refl)
    c.in_ok-write_parts.ensures

pub returns-in_err-write_parts : goal.returns-in_err-write_parts
returns-in_err-write_parts g c =
    piece_begun question_line c.args.questions.now c.questions-test.true c.question-item.is
    c.questions.invariant
    (rw (c.as_slice.ensures, c.borrowed.ensures.value, ← c.question.view_is) refl)
    c.in_err-write_parts.ensures c.from_residual.ensures.0
