use Rattle.dns_spec.proofs.Messages.Question.{question_ends}
use Rattle.dns_spec.proofs.reading.question_ends_by_octet_271.Goals as goal

pub returns : goal.returns
returns c = question_ends
