use Rattle.dns_zone.proofs.Common.{rules, ◌≡◌, ◌+◌, ◌-◌, length, take, sym, ◌∙◌, subst, labels_of, labels_of_spelled, name_key, BeginAlike}
use Rattle.dns_zone.proofs.WrittenKeys.{some, long, alike_front, alike_ending, known_whole}
use Rattle.dns_zone.proofs.order.key.+put_labels.Goals.{Joined-near-eq0, then-near-eq0, else-near-eq0+else-not-are_equal}
use Rattle.dns_zone.proofs.order.key.+put_labels.Goals as goal

pub shortest_end-requires : goal.shortest_end-requires
shortest_end-requires n c = some _ c.in-Some.ensures.1

pub overflow_sub-rest : goal.overflow_sub-rest
overflow_sub-rest n c = some _ c.in-Some.ensures.1

pub put_labels-requires : goal.put_labels-requires
put_labels-requires n c =
    let first = c.in-Some.ensures in
    let longer = long _ _ _ c.requires.wire first.1 first.0 in
    let rest = some _ first.1 in
    let alike = alike_front c.args.key.now (name_key c.args.known.now)
    (length c.in-Some.rest.now - 1) c.requires.alike in
    search rules

pub put_label-requires : goal.put_label-requires
put_label-requires n c =
    let first = c.in-Some.ensures in
    let longer = long _ _ _ c.requires.wire first.1 first.0 in
    let rest = some _ first.1 in
    search rules

-- the key of the rest is written, or known
front_is : (n : _) (c : Joined-near-eq0 n)
    → c.if-near-eq0.front ≡ name_key (labels_of c.in-Some.rest.now)
front_is n c = elim c.if-near-eq0.branch [
  | then-near-eq0 w ↦ w.front-is ∙ w.put_labels.ensures
  | else-near-eq0+else-not-are_equal w ↦
      let first = c.in-Some.ensures in
      let longer = long _ _ _ c.requires.wire first.1 first.0 in
      let rest = some _ first.1 in
      let room = length c.in-Some.rest.now - 1 in
      let front = take room c.args.key.now in
      let alike : BeginAlike front (name_key w.shortest_end.result) =
      subst (λ n. BeginAlike front (name_key n)) (sym w.shortest_end.ensures)
      (alike_ending _ c.args.known.now front
      (alike_front c.args.key.now _ room c.requires.alike)) in
      let known = labels_of_spelled c.in-Some.rest.now w.shortest_end.result
      (sym (w.are_equal.ensures.0 w.if-not-are_equal.false) ∙ w.octets.ensures.value)
      w.octets.ensures.is_name in
      let size : length c.in-Some.rest.now ≡ length front + 1 = search rules in
      let whole = known_whole _ front _ first.1 known size alike in
      search rules
]

pub returns : goal.returns
returns n c =
    let front = front_is n (goal.at.returns n c).Joined-near-eq0 in search rules
