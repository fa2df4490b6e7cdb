use Rattle.dns_master.proofs.Common.{rules}
use Rattle.dns_master.proofs.PieceSteps.{nothing-added, piece-taken}
use Rattle.dns_master.proofs.pieces.PieceReader.take_piece.Goals as goal

pub returns-else-len-self-clause-ok : goal.returns-else-len-self-clause-ok
returns-else-len-self-clause-ok g c = search (rules, piece-taken, nothing-added)
