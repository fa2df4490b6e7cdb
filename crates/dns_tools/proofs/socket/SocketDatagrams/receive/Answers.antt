use Rattle.dns_tools.proofs.Common.{arith, handed_unknown}
use Rattle.dns_tools.proofs.socket.SocketDatagrams.receive.Goals as goal

pub returns-in-Ok-clause-datagram : goal.returns-in-Ok-clause-datagram
returns-in-Ok-clause-datagram g c =
    handed_unknown c.in-Ok.count c.recv_from.new.buf
    (omega (arith, c.in-Ok.ensures.0, c.in-Ok.ensures.1, c.calls.invariant.room))
