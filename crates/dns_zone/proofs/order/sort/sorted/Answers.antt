use Rattle.dns_zone.proofs.Common.{◌≡◌, ◌<◌, ◌≤◌, ◌∙◌, ℕ, List, All, length, map, sym, ap, subst, arith, length-map, get_or-map, Octets, ResourceRecord, IsReadRecord, record_order, sort_risen, rises_canonical, all_canonical, AreApart, AreOrdered, AreKeyed, AreSorted, name_key, no_record, placed, SortKey}
use Rattle.dns_zone.specs.SortKeyForm.{no_sort_key}
use Rattle.dns_zone.proofs.order.sort.sorted.Goals as goal
use Rattle.dns_zone.proofs.order.sort.sorted.Goals.{In_ok-sort_distinct, After-gather}
use Rattle.dns_zone.proofs.AtName.{canonical}

-- records at sorted sort keys, with the starts of their keys
keyed : (keys : Octets) (rs ss : List ResourceRecord) (ps : List SortKey) (starts : List ℕ)
    → AreSorted keys rs ps → ss ≡ map (placed rs no_record) ps
    → starts ≡ map (λ (p : SortKey). p.start) ps → AreKeyed keys ss starts
keyed keys rs ss ps starts h e f = rw (e, f) (record {
  count = length-map ps (λ (p : SortKey). p.start) ∙ sym (length-map ps (placed rs no_record));
  each = λ i r s l.
      let inside : i < length ps = omega (arith, l, length-map ps (placed rs no_record)) in
      let record_is = get_or-map (placed rs no_record) ps i no_sort_key r inside in
      let start_is = get_or-map (λ (p : SortKey). p.start) ps i no_sort_key s inside in
      grind (arith, record_is, start_is, h.key i no_sort_key inside);
})

module _ (c : In_ok-sort_distinct) where
  abbrev rs : List ResourceRecord
  rs = c.args.records.items

  abbrev ps : List SortKey
  ps = c.sort_distinct.new.sort_keys.items

  read : All IsReadRecord rs
  read = subst (All IsReadRecord) c.as_slice.ensures.value c.in_ok-keys.ensures.read

  are_sorted : AreSorted c.in_ok-keys.keys.items rs ps
  are_sorted =
      let o = name_key c.args.origin.now in
      let keys = c.as_slice-2.ensures.value in
      let records = c.as_slice-3.ensures.value in
      grind (arith, keys, records, c.as_slice.ensures.value, c.in_ok-keys.ensures.sort_keys, c.in_ok-sort_distinct.ensures o)

pub gather-requires-clause-inside : goal.gather-requires-clause-inside
gather-requires-clause-inside c =
    let at = (goal.at.gather-requires-clause-inside c).In_ok-sort_distinct in
    subst (All (λ (p : SortKey). p.at < length c.args.records.items)) (sym c.as_mut_slice.ensures.value)
    (are_sorted at).inside

pub gather-requires-clause-apart : goal.gather-requires-clause-apart
gather-requires-clause-apart c =
    let at = (goal.at.gather-requires-clause-apart c).In_ok-sort_distinct in
    subst AreApart (sym c.as_mut_slice.ensures.value) (are_sorted at).apart

pub gather-requires-clause-fewer : goal.gather-requires-clause-fewer
gather-requires-clause-fewer c =
    let at = (goal.at.gather-requires-clause-fewer c).In_ok-sort_distinct in
    subst (λ (qs : List SortKey). length qs ≤ length c.args.records.items)
    (sym c.as_mut_slice.ensures.value) (are_sorted at).fewer

gathered : (c : After-gather) → c.gather.new.records.items
    ≡ map (placed c.args.records.items no_record) c.sort_distinct.new.sort_keys.items
gathered c =
    c.gather.ensures
    ∙ ap (map (placed c.args.records.items no_record)) c.as_mut_slice.ensures.value

pub returns-clause-records : goal.returns-clause-records
returns-clause-records c =
    let at = (goal.at.returns-clause-records c) in
    gathered at.After-gather ∙ (are_sorted at.In_ok-sort_distinct).whole

pub returns-clause-in_order : goal.returns-clause-in_order
returns-clause-in_order c =
    let at = (goal.at.returns-clause-in_order c) in
    subst AreOrdered (sym (gathered at.After-gather ∙ (are_sorted at.In_ok-sort_distinct).whole))
    (sort_risen record_order (canonical c.args.records.items)
    (rises_canonical c.args.records.items))

pub returns-clause-count : goal.returns-clause-count
returns-clause-count c =
    let at = (goal.at.returns-clause-count c) in
    let count = ap length (gathered at.After-gather) in
    let fewer = (are_sorted at.In_ok-sort_distinct).fewer in
    omega (
      arith,
      fewer,
      count,
      length-map (ps at.In_ok-sort_distinct) (placed c.args.records.items no_record),
    )

pub returns-clause-each : goal.returns-clause-each
returns-clause-each c =
    let at = (goal.at.returns-clause-each c) in
    subst (All IsReadRecord)
    (sym (gathered at.After-gather ∙ (are_sorted at.In_ok-sort_distinct).whole))
    (all_canonical IsReadRecord c.args.records.items (read at.In_ok-sort_distinct))

pub returns-clause-keyed : goal.returns-clause-keyed
returns-clause-keyed c =
    let at = (goal.at.returns-clause-keyed c) in
    keyed c.in_ok-keys.keys.items c.args.records.items c.gather.new.records.items
    (ps at.In_ok-sort_distinct) c.in_ok-starts.starts.items (are_sorted at.In_ok-sort_distinct)
    (gathered at.After-gather)
    (c.in_ok-starts.ensures ∙ ap (map (λ (p : SortKey). p.start)) c.as_slice-4.ensures.value)
