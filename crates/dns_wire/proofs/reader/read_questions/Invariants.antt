use Rattle.dns_wire.proofs.Common.{◌≤◌, ◌-◌, length, message_question_at}
use Rattle.dns_wire.proofs.ReadLemmas.{AreRead, KeepsFault}
use Rattle.dns_spec.specs.MessageFaults.{QuestionFault}
use Rattle.dns_wire.proofs.reader.read_questions.Given as goal

abbrev pub invariant-questions : goal.invariant-questions
invariant-questions l = record {
  read : AreRead (message_question_at l.message) l.fn.count l.at l.questions.items
      (l.fn.count - l.counter) l.offset;
  faults : KeepsFault (message_question_at l.message) (QuestionFault l.message) l.fn.count l.at
      (l.fn.count - l.counter) l.offset;
  within : l.offset ≤ length l.message;
}
