use Rattle.dns_spec.proofs.Common.{rules, [], subst, append-nil, err_from_is_err_and, Appends, Appends-trans}
use Rattle.dns_name.specs.Counted.{AppendsBeginning}
use Rattle.dns_name.proofs.WritesLemmas.{beginning_of_second}
use Rattle.dns_serve.proofs.Sessions.{done_more, served_most, served_all, replied, unread, unwritten}
use Rattle.dns_serve.proofs.stream.serve_stream.Goals as goal

pub returns-in_err-read_frame-clause-session : goal.returns-in_err-read_frame-clause-session
returns-in_err-read_frame-clause-session g c =
    let p = err_from_is_err_and c.from_residual.result c.from_residual.ensures.1 in
    rw (p.1, p.2) (unread _ _ _ _ _ _ _ _ c.read_frame.new.frame
    _ c.messages.invariant.done c.messages-test.true c.in_err-read_frame.ensures.read)

pub returns-in_err-write_reply-clause-session : goal.returns-in_err-write_reply-clause-session
returns-in_err-write_reply-clause-session g c =
    let p = err_from_is_err_and
    c.from_residual-in_err-write_reply.result c.from_residual-in_err-write_reply.ensures.1 in
    let read = rw c.if-not-branch.false at c.in_ok-read_frame.ensures.read in
    let reply = replied _ _ _ _ _ (AppendsBeginning _ _) read c.message-message.ensures
    c.in_err-write_reply.ensures.err in
    rw (p.1, p.2) (unwritten _ _ _ _ _ _ _ _ _ c.messages.invariant.done c.messages-test.true reply)

-- the whole reply was written, but the flush failed
pub returns-in_err-flush-clause-session : goal.returns-in_err-flush-clause-session
returns-in_err-flush-clause-session g c =
    let p = err_from_is_err_and
    c.from_residual-in_err-flush.result c.from_residual-in_err-flush.ensures.1 in
    let both = beginning_of_second _ _ _ _ []
    c.in_ok-write_reply.ensures.ok c.in_err-flush.ensures.err in
    let written = subst (AppendsBeginning _ _) (append-nil _) both in
    let read = rw c.if-not-branch.false at c.in_ok-read_frame.ensures.read in
    let reply = replied _ _ _ _ _ (AppendsBeginning _ _) read c.message-message.ensures written in
    rw (p.1, p.2) (unwritten _ _ _ _ _ _ _ _ _ c.messages.invariant.done c.messages-test.true reply)

pub messages-preserved : goal.messages-preserved
messages-preserved g c =
    let written = subst (Appends _ _) (append-nil _) (Appends-trans _ _ _ _ []
    c.in_ok-write_reply.ensures.ok c.in_ok-flush.ensures.ok) in
    let read = rw c.if-not-branch.false at c.in_ok-read_frame.ensures.read in
    let reply = replied _ _ _ _ _ (Appends _ _) read c.message-message.ensures written in
    record {
      done = done_more _ _ _ _ _ _ _ _ c.messages.invariant.done reply;
      within = search rules;
      same = search rules;
      source = search rules;
      sink = search rules;
      room = search rules;
    }

pub returns-after-messages-clause-session : goal.returns-after-messages-clause-session
returns-after-messages-clause-session g c =
    served_most _ _ _ _ _ _ _ c.messages.invariant.done (search rules)

pub returns-then-not-branch-clause-session : goal.returns-then-not-branch-clause-session
returns-then-not-branch-clause-session g c =
    served_all _ _ _ _ _ _ _ _ c.messages.invariant.done c.messages-test.true
    (rw c.if-not-branch.true at c.in_ok-read_frame.ensures.read)
