use Rattle.dns_spec.proofs.Common.{◌≡◌, ◌+◌, ◌-◌, ◌∙◌, ap, sym, drop, length, length-append, length-drop, arith}
use Rattle.std.proofs.Math.Logic.{∥∥₁_map}
use Rattle.dns_connections.proofs.Serving.{taken, left_over}
use Rattle.dns_connections.proofs.peer.Peer.answer.Goals as goal

pub invariant_of-self-clause-serves : goal.invariant_of-self-clause-serves
invariant_of-self-clause-serves g c =
    let items = c.args.self.now.input.items in
    let pending : c.split_at.result.1.now ≡ drop c.args.self.now.taken items =
    c.split_at.ensures.back ∙ ap (drop c.args.self.now.taken) c.deref.ensures.value in
    let end = c.take-rest.ensures.rest in
    let fits : length end.front + length c.take-rest.result.now ≡ length c.split_at.result.1.now =
    sym (length-append end.front c.take-rest.result.now) ∙ ap length (sym end.split) in
    let count : c.len.result - length c.take-rest.result.now + length c.take-rest.result.now
    ≡ length items =
    omega (arith, fits, ap length pending, length-drop c.args.self.now.taken items, c.len.ensures) in
    ∥∥₁_map c.args.self.now.serves (taken _ _ _ _ _ _ _ _ _ _ c.requires.zone pending
    (left_over c.args.self.now.taken _ items _ _ pending count end)
    (omega (arith, length-drop c.args.self.now.taken items, c.requires.pending))
    c.take-rest.ensures.taken)
