use Rattle.dns_tools.proofs.Common.{rules, ◌≡◌, ◌==◌, ◌∙◌, ap, sym, arith, filter, length, Fault, vec_len, is_lasting, faults_of, zone_in}
use Rattle.dns_zone.specs.declared.build_fault.CheckFault.{CheckFault}
use Rattle.dns_tools.proofs.Listing.{all_listed, lasting_listed, lasting_faults}
use Rattle.std.proofs.lemmas.Fn.{filter_same}
use Rattle.dns_tools.proofs.faults.listed.Goals as goal

pub returns-then-not-is_empty : goal.returns-then-not-is_empty
returns-then-not-is_empty c = λ found z is e.
    let count : vec_len c.args.list.now.faults ≡ length c.args.list.now.faults.items =
    omega (arith, c.args.list.now.faults.ok.0) in
    ap (faults_of (zone_in c.args.zone))
    (filter_same _ (λ (g : CheckFault). is_lasting g.code) _ (λ x b f' k. search rules) _ _
    c.retain.ensures.filtered)
    ∙ lasting_faults (zone_in c.args.zone) c.args.zone.found.items
    ∙ ap (filter (λ (g : Fault). is_lasting g.code)) e
    ∙ lasting_listed found z c.args.list.now is
    (ap (λ n. n == 0) (sym count) ∙ sym c.is_empty.ensures ∙ c.if-not-is_empty.true)

pub returns-else-not-is_empty : goal.returns-else-not-is_empty
returns-else-not-is_empty c = λ found z is e.
    let count : vec_len c.args.list.now.faults ≡ length c.args.list.now.faults.items =
    omega (arith, c.args.list.now.faults.ok.0) in
    e ∙ all_listed found z c.args.list.now is
    (ap (λ n. n == 0) (sym count) ∙ sym c.is_empty.ensures ∙ c.if-not-is_empty.false)
