use Rattle.dns_spec.proofs.Common.{rules, ap}
use Rattle.dns_serve.proofs.OneTurn.{turn_without, turn_with, turn_unsent}
use Rattle.dns_serve.proofs.turn.udp_turn_in.Goals as goal

pub returns-in_default-respond_in-clause-turn : goal.returns-in_default-respond_in-clause-turn
returns-in_default-respond_in-clause-turn g c = search (rules, turn_without)

pub returns-in-Ok-send-clause-turn : goal.returns-in-Ok-send-clause-turn
returns-in-Ok-send-clause-turn g c =
    turn_with _ _ _ _ _ c.receive.new.buf c.respond_in.result (ap (λ s. s.zone) c.new.ensures)
    c.in-Ok.ensures.datagram c.respond_in.ensures.octets _ _ _ _ _ c.in-Some.is
    c.in-Ok.ensures.sent c.in-Ok-send.ensures.received c.in-Ok-send.ensures.datagram

pub returns-in-Err-clause-turn : goal.returns-in-Err-clause-turn
returns-in-Err-clause-turn g c =
    turn_unsent _ _ _ _ _ c.receive.new.buf c.respond_in.result (ap (λ s. s.zone) c.new.ensures)
    c.in-Ok.ensures.datagram c.respond_in.ensures.octets _ _ _ _ c.in-Some.is
    c.in-Err.ensures.received
