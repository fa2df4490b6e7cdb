use Rattle.dns_tools.proofs.Common.{◌≡◌, length}
use Rattle.dns_tools.proofs.socket.SocketDatagrams.receive.Given as goal

abbrev pub invariant-calls : goal.invariant-calls
invariant-calls g l = record {
  room : length l.buf ≡ 512;
  failures : l.self-inside.failures ≡ l.initial.self-inside.failures;
}
