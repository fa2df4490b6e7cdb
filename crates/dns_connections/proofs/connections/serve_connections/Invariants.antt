use Rattle.dns_connections.proofs.connections.serve_connections.Given as goal

abbrev pub ghosts-serve : goal.ghosts-serve
ghosts-serve g a = record {
  zone = a.zone.now;
  most = a.plan.most;
  before = g.K.Sockets.state a.sockets;
}
