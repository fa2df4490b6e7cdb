use Rattle.dns_spec.proofs.Common.{arith, ap, ◌+◌, length, length-drop}
use Rattle.dns_serve.proofs.session.Session.note_sent.Goals as goal

pub returns-else-self-len-clause-empty : goal.returns-else-self-len-clause-empty
returns-else-self-len-clause-empty c = λ none.
    absurd (omega (arith, ap length none, length-drop (c.self.inside.sent + c.args.count) c.self.inside.replies.items))
