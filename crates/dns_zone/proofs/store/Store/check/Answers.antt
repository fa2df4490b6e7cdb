use Rattle.dns_zone.proofs.Common.{rules, ◌≡◌, ◌≤◌, ap, ap₂, sym, length-map, ZoneContents, fault_of, faults_of, ◌∙◌, subst, arith, length, vec_len, List, nil_from_length, false≢true, eqb-true, eq-eqb, DomainName, faults, ResourceRecord, folded_folded, IsBuilt}
use Rattle.dns_zone.proofs.BuiltZone.{found_of_read, built}
use Rattle.dns_zone.proofs.AtName.{canonical}
use Rattle.dns_zone.proofs.store.Store.check.Goals as goal

pub faults-requires-clause-lower : goal.faults-requires-clause-lower
faults-requires-clause-lower c = search (rules, folded_folded)

pub returns-then-not-is_empty-clause-faults : goal.returns-then-not-is_empty-clause-faults
returns-then-not-is_empty-clause-faults c =
    let found = c.in_ok-found.found.items in
    let rs = c.as_slice.result.now in
    let z : ZoneContents = record { origin = c.borrowed-2.result; records = rs } in
    let are =
    found_of_read c.args.origin.now c.fold-origin.result c.args.self c.in_ok-records.records.items
    rs (faults_of z found) c.fold-origin.ensures
    (c.in_ok-records.ensures.records ∙ ap canonical c.self.view_is) c.as_slice.ensures.value
    (c.in_ok-found.ensures ∙ ap (λ (o : DomainName). faults (record { origin = o; records = rs }))
    c.borrowed-2.ensures.value) in (
      ap₂ (λ (o : DomainName) ss. faults_of (record { origin = o; records = ss }) found)
          (sym c.borrowed-2.ensures.value) (sym c.as_slice.ensures.value) ∙ are,
      λ none. false≢true (sym c.if-not-is_empty.true ∙ c.is_empty.ensures
          ∙ eq-eqb (vec_len c.in_ok-found.found) 0 (omega (
            arith,
            ap length (are ∙ none),
            length-map found (fault_of z),
            c.in_ok-found.found.ok.0,
          ))),
    )

pub invariant_of-result : goal.invariant_of-result
invariant_of-result c =
    let found = c.in_ok-found.found.items in
    let z : ZoneContents =
    record { origin = c.borrowed-2.result; records = c.as_slice.result.now } in
    let empty : vec_len c.in_ok-found.found ≡ 0 =
    eqb-true (vec_len c.in_ok-found.found) 0 (sym c.is_empty.ensures ∙ c.if-not-is_empty.false)
    in
    subst (λ (xs : List ResourceRecord). IsBuilt
    (record { origin = c.fold-origin.result; records = xs })) (sym c.new-records.ensures)
    (built c.args.origin.now c.fold-origin.result c.args.self
    c.in_ok-records.records.items _ (faults_of z found) c.fold-origin.ensures
    (c.in_ok-records.ensures.records ∙ ap canonical c.self.view_is) c.as_slice.ensures.value
    (c.in_ok-found.ensures
    ∙ ap (λ (o : DomainName). faults (record { origin = o; records = c.as_slice.result.now }))
    c.borrowed-2.ensures.value)
    (omega (arith, c.in_ok-found.found.ok.0, length-map found (fault_of z))) c.requires
    (subst (λ rs. length c.in_ok-records.records.items ≤ length rs)
    c.self.view_is c.in_ok-records.ensures.count)
    c.in_ok-records.ensures.in_order c.in_ok-records.ensures.each)

pub returns-clause-passes : goal.returns-clause-passes
returns-clause-passes c = search (rules, eqb-true, found_of_read, nil_from_length)
