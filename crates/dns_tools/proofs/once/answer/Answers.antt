use Rattle.dns_tools.proofs.Common.{arith, sym, length-take-le}
use Rattle.dns_tools.proofs.once.answer.Goals as goal

pub slice_bounds-spell-end-2 : goal.slice_bounds-spell-end-2
slice_bounds-spell-end-2 g c =
    sym (length-take-le 65535 c.args.scratch.now (omega (arith, c.requires.room)))

pub spell-requires : goal.spell-requires
spell-requires g c = length-take-le 65535 c.args.scratch.now (omega (arith, c.requires.room))
