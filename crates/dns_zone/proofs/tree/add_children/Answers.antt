use Rattle.dns_zone.proofs.Common.{DomainName, IsChild, List, ResourceRecord, Row, [], ap, arith, at_or_below, drop, get_or, get_or_default, length, row_at, row_name, row_octets, rules, subst, sym, take, true, under, ℕ, ◌<◌, ◌∙◌, ◌≡◌, ◌≤◌}
use Rattle.dns_zone.proofs.BoundedChildren.{none_under}
use Rattle.dns_zone.proofs.ChildNames.{IsChildOf, cons_under}
use Rattle.dns_zone.proofs.ChildRows.{is_under, owner_at, IsNext, child_there, none_before_it}
use Rattle.dns_zone.proofs.Spans.{none_past}
use Rattle.dns_zone.proofs.GrowingChildren.{start, next_is, step, done}
use Rattle.dns_zone.proofs.tree.add_children.Goals as goal
use Rattle.dns_zone.proofs.tree.add_children.Goals.{After-shortest_end-name}

same_row : (rows : List Row) (k : ℕ) (r d : Row) → r ≡ get_or rows k d → k < length rows
    → r ≡ row_at rows k
same_row rows k r d e h = e ∙ get_or_default rows k d _ h

module _ (c : After-shortest_end-name) where
  abbrev rs : List ResourceRecord
  rs = c.args.records.now

  abbrev row : Row
  row = row_at c.args.rows.now.items c.args.number

  row_is : c.index-row.result.now ≡ row
  row_is = same_row c.args.rows.now.items c.args.number _ _ c.index-row.ensures c.requires.number

  next : IsNext rs (row_name rs row) c.children.next
  next =
      next_is rs c.requires.canonical (row_name rs row) row c.requires.row c.args.rows.now.items
      c.children.rows.items c.children.next c.children.invariant
      (subst (λ (r : Row). c.children.next < r.end) row_is c.children-test.true)

  child : IsChildOf (row_name rs row) c.index-records-next.result.owner c.shortest_end-name.result
  child =
      child_there rs c.requires.canonical (row_name rs row) c.children.next next _
      c.index-records-next.is _ _ _
      (sym (c.octets_of-parent.ensures.octets ∙ ap (row_octets rs) row_is ∙ c.requires.row.octets))
      c.owner.ensures.value c.shortest_end-name.ensures

  none_ahead : under c.shortest_end-name.result (take c.children.next rs) ≡ []
  none_ahead =
      none_before_it rs c.requires.canonical (row_name rs row) c.children.next next _
      c.index-records-next.is c.shortest_end-name.result child

  none_after : under c.shortest_end-name.result (drop c.index-row.result.now.end rs) ≡ []
  none_after =
      let past = none_past (is_under (row_name rs row)) rs row.first row.end
      (omega (arith, c.requires.row.more)) c.requires.row.below in
      grind (
        arith,
        none_under c.shortest_end-name.result (row_name rs row),
        child.labels,
        row_is,
        past,
        cons_under child.label (row_name rs row),
      )

pub children-init : goal.children-init
children-init c = search (rules, same_row, start)

pub of-child-requires-clause-lower : goal.of-child-requires-clause-lower
of-child-requires-clause-lower c =
    (child (goal.at.of-child-requires-clause-lower c).After-shortest_end-name).lower

pub of-child-requires-clause-here : goal.of-child-requires-clause-here
of-child-requires-clause-here c =
    let at = (goal.at.of-child-requires-clause-here c).After-shortest_end-name in
    subst (λ (o : DomainName). at_or_below o c.shortest_end-name.result ≡ true)
    (sym (owner_at _ _ _ (next at).fits c.index-records-next.is)) (child at).above

pub of-child-requires-clause-before : goal.of-child-requires-clause-before
of-child-requires-clause-before c =
    none_ahead (goal.at.of-child-requires-clause-before c).After-shortest_end-name

pub of-child-requires-clause-after : goal.of-child-requires-clause-after
of-child-requires-clause-after c =
    none_after (goal.at.of-child-requires-clause-after c).After-shortest_end-name

pub children-preserved : goal.children-preserved
children-preserved c =
    let at = (goal.at.children-preserved c).After-shortest_end-name in
    let rs = c.args.records.now in
    let rows = c.args.rows.now.items in
    let row = row_at rows c.args.number in
    let child : IsChild rs (row_name rs row) c.of-child.result = record {
      label = (child at).label;
      is_row = rw (← (child at).labels) c.of-child.ensures.row;
    } in
    rw c.in_ok-push.ensures.items
    (step rs c.requires.canonical (row_name rs row) row c.requires.row rows c.children.rows.items
    c.children.next c.children.invariant c.of-child.result child c.of-child.ensures.first)

pub returns : goal.returns
returns c =
    let rs = c.args.records.now in
    let rows = c.args.rows.now.items in
    let row = row_at rows c.args.number in
    let same = same_row rows c.args.number _ _ c.index-row.ensures c.requires.number in
    done rs c.requires.canonical (row_name rs row) row c.requires.row rows c.children.rows.items
    c.children.next c.children.invariant
    (subst (λ (r : Row). r.end ≤ c.children.next) same c.children-test.false)
