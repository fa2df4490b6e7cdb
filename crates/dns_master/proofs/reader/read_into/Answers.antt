use Rattle.dns_master.proofs.Common.{rules, None}
use Rattle.dns_master.proofs.SourceSteps.{piece-given, fault-given, end-given, limit-given, fault_read, rest_read}
use Rattle.dns_master.proofs.reader.read_into.Goals as goal

pub returns-in_err-take_piece : goal.returns-in_err-take_piece
returns-in_err-take_piece g c =
    let fault = c.in_err-take_piece in
    fault_read _ _ _ _ _ c.from_residual.result fault.field-0.0 _ c.from_residual.ensures.1
    (fault-given _ _ _ _ _ _ _ _ c.pieces.invariant.so_far) fault.ensures.err (search rules)

pub returns-then-not-branch : goal.returns-then-not-branch
returns-then-not-branch g c =
    let piece = c.in_ok-take_piece.ensures.ok in
    let so = piece-given _ _ _ _ _ _ _ _ c.pieces.invariant.so_far _ _ _ _ _ piece in
    rest_read _ _ _ _ _ c.finish.result _ _ _ _
    (λ m h. end-given _ _ None _ _ _ _ _ so _ m so.consumed (piece.over (search rules)).1 h)
    c.finish.ensures.ok c.finish.ensures.err (search rules)

pub pieces-preserved : goal.pieces-preserved
pieces-preserved g c = search (rules, piece-given)

pub returns-in-Ok : goal.returns-in-Ok
returns-in-Ok g c =
    rest_read _ _ _ _ _ c.finish-in-Ok.result _ _ _ _
    (λ m h. limit-given _ _ _ _ _ _ _ _ c.pieces.invariant.so_far _ m (search rules)
    c.in-Ok.ensures.ok h) c.finish-in-Ok.ensures.ok
    c.finish-in-Ok.ensures.err (search rules)
