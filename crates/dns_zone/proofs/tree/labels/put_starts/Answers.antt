use Rattle.dns_zone.proofs.Common.{rules, ◌<◌, ◌∙◌, length, length-set, arith, labels_of}
use Rattle.dns_zone.proofs.LabelStarts.{begins-first, begins-next, next-fits, starts-more}
use Rattle.dns_zone.proofs.tree.labels.put_starts.Goals as goal

pub labels-init : goal.labels-init
labels-init c = search (rules, begins-first)

pub overflow_add-start : goal.overflow_add-start
overflow_add-start c = search (rules, next-fits)

pub overflow_add-start-in-labels : goal.overflow_add-start-in-labels
overflow_add-start-in-labels c = search (rules, next-fits)

pub labels-preserved : goal.labels-preserved
labels-preserved c =
    let inv = c.labels.invariant in
    let more : c.labels.k < length (labels_of c.args.octets.now) =
    omega (arith, c.labels-test.true, c.requires.labels) in
    record {
      here = begins-next c.args.octets.now c.labels.k c.labels.start inv.here more;
      known = starts-more c.args.octets.now c.labels.k c.labels.start c.labels.starts
          (omega (arith, c.labels-test.true, c.requires.room, inv.room)) inv.known inv.here;
      room = length-set c.labels.starts c.labels.k c.labels.start ∙ inv.room;
    }
