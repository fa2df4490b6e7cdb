use Rattle.dns_wire.proofs.Common.{true, ◌≡◌, ◌<◌, ◌≤◌, ◌+◌, take, length, List, wire, records_at, Placed, IsForm, IsLaid, HasNames, Writes, records_laid}
use Rattle.dns_wire.specs.Writing.{shown_form}
use Rattle.dns_wire.proofs.message_builder.MessageBuilder.put_set.Given as goal

-- the records of the set so far have been written, and `form` says how the first record's owner is
-- laid out
abbrev pub invariant-records : goal.invariant-records
invariant-records g l =
    let numbers = g.H.SuffixHash.hashes in
    record {
      writes : Writes (numbers l.initial.hash) (numbers l.hash) l.initial.self l.self
          (records_laid (take l.i (records_at l.owner l.ttl (g.S.SetView.set l.set)))) true;
      longer : length l.initial.self.octets + l.i ≤ length l.self.octets;
      begins : l.i ≡ 0 → l.self ≡ l.initial.self;
      form : IsForm (wire l.owner) (shown_form l.form);
      known : 0 < l.i → (ms : List Placed) → HasNames l.initial.self (numbers l.initial.hash) ms
          → IsLaid ms l.owner (shown_form l.form);
    }
