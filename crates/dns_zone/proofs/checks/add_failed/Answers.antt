use Rattle.dns_zone.proofs.Common.{◌++◌, ap, sym, ◌∙◌, append-nil, failed_from}
use Rattle.std.proofs.lemmas.Slice.Eq.{slice_eq-Decides}
use Rattle.std.specs.Cmp.{booleans_Decides}
use Rattle.dns_zone.proofs.checks.add_failed.Goals as goal

pub returns-then-eq : goal.returns-then-eq
returns-then-eq c =
    let old = c.args.found.now.items in
    let none = (slice_eq-Decides booleans_Decides c.args.failed.now c.as_slice.result.now _
    c.eq.ensures).0 c.if-eq.true ∙ c.as_slice.ensures in
    sym (append-nil old) ∙ ap (λ bs. old ++ failed_from c.args.owner 1 bs) (sym none)
