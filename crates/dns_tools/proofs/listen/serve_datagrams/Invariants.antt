use Rattle.dns_tools.proofs.Common.{◌≡◌, ◌≤◌, ◌+◌, true, TakesTurns}
use Rattle.dns_tools.proofs.listen.serve_datagrams.Given as goal

-- the device is as `counter` turns leave it, and its count of failures has grown by at most one for
-- each turn; if the count has not grown, `are_said` is true
abbrev pub invariant-turns : goal.invariant-turns
invariant-turns g l = record {
  taken : TakesTurns l.zone l.counter
      (record {
        received = g.D.Datagrams.received l.initial.device;
        sent = g.D.Datagrams.sent l.initial.device;
        failures = g.D.Datagrams.count l.initial.device;
      })
      (record {
        received = g.D.Datagrams.received l.device;
        sent = g.D.Datagrams.sent l.device;
        failures = g.D.Datagrams.count l.device;
      });
  count : g.D.Datagrams.count l.device ≤ g.D.Datagrams.count l.initial.device + l.counter;
  grown : g.D.Datagrams.count l.initial.device ≤ g.D.Datagrams.count l.device;
  said : g.D.Datagrams.count l.device ≡ g.D.Datagrams.count l.initial.device → l.are_said ≡ true;
}
