use Rattle.dns_wire.proofs.Common.{◌≡◌, append_assoc, ◌+◌, ◌≤◌, ◌++◌, sym, subst, arith, length, length-append, partial_of, with_octets, IsWellKept}
use Rattle.dns_wire.proofs.Steps.{kept_longer, octets_written}
use Rattle.dns_wire.proofs.message_builder.MessageBuilder.append.Goals as goal
use Rattle.dns_wire.proofs.message_builder.MessageBuilder.append.Given as given

module _ (g : given.Over) (c : goal.After-extend-2 g) where
  before : IsWellKept g.row.N g.row.SIZE c.args.self.now
  before = subst (IsWellKept g.row.N g.row.SIZE) c.self.view_is c.self.invariant

  put : partial_of c.self.inside.limit
      c.extend-2.new.octets.items c.self.inside.asked_end c.self.inside.offsets c.self.inside.counts
      ≡ with_octets c.args.self.now (c.args.front.now ++ c.args.end.now)
  put = grind (arith, append_assoc)

  fits : length c.args.self.now.octets + length
      (c.args.front.now ++ c.args.end.now) ≤ c.args.self.now.limit
  fits = grind (arith, length-append)

pub invariant_of-self : goal.invariant_of-self
invariant_of-self g c = subst (IsWellKept g.row.N g.row.SIZE)
    (sym (put g c)) (kept_longer (c.args.front.now ++ c.args.end.now) (before g c) (fits g c))

pub returns-clause-writes : goal.returns-clause-writes
returns-clause-writes g c = λ head. octets_written head
    (c.args.front.now ++ c.args.end.now) (before g c).asked (fits g c) (put g c)
