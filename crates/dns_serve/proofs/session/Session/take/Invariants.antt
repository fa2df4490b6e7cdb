use Rattle.dns_spec.proofs.Common.{◌≡◌, ℕ, ◌+◌, drop, vec_len, length, Octets}
use Rattle.dns_serve.specs.Framing.{HasTaken, IsEndOf}
use Rattle.dns_serve.proofs.Taking.{Took}
use Rattle.dns_serve.proofs.session.Session.take.Given as goal

abbrev pub invariant-pieces : goal.invariant-pieces
invariant-pieces l = record {
  rest : IsEndOf l.rest l.octets;
  took : (most : ℕ) (x sent : Octets) → HasTaken l.zone most l.fn.self x sent
      → Took l.zone most (record {
        frame = l.self-inside.frame;
        unsent = drop l.self-inside.sent l.self-inside.replies.items;
        held = vec_len l.self-inside.replies;
        left = l.self-inside.left;
      }) x sent l.octets l.rest;
  held : vec_len l.self-inside.replies + length l.fn.self.unsent
      ≡ l.fn.self.held + length (drop l.self-inside.sent l.self-inside.replies.items);
}

abbrev pub decreases-pieces : goal.decreases-pieces
decreases-pieces l = length l.rest
