use Rattle.dns_zone.proofs.Common.{DomainName, IsBuilt, List, ResourceRecord, Row, [], ap, arith, at_or_below, false≢true, get_or, length, owners, subst, sym, true, vec_len, ℕ, ◌++◌, ◌+◌, ◌<◌, ◌∙◌, ◌∷◌, ◌≡◌}
use Rattle.dns_zone.proofs.Existing.{origin-soa, all-inside}
use Rattle.dns_zone.proofs.GrowingTree.{Growing, begin, advance}
use Rattle.dns_spec.proofs.General.Numbers.{other_than}
use Rattle.dns_zone.proofs.tree.rows_of.Goals as goal

-- the first record is at or below the origin
first_inside : (o : DomainName) (rs : List ResourceRecord)
    → IsBuilt (record { origin = o; records = rs })
    → (0 < length rs) × (at_or_below (get_or (owners rs) 0 []) o ≡ true)
first_inside o [] kept = absurd (false≢true (origin-soa (record { origin = o; records = [] }) kept))
first_inside o (r ∷ rs) kept = (
  omega arith,
  (all-inside (record { origin = o; records = r ∷ rs }) kept).0,
)

pub of-requires-clause-some : goal.of-requires-clause-some
of-requires-clause-some c = (first_inside c.args.origin.now c.args.records.now c.requires).0

pub of-requires-clause-here : goal.of-requires-clause-here
of-requires-clause-here c = (first_inside c.args.origin.now c.args.records.now c.requires).1

pub rows-init : goal.rows-init
rows-init c =
    let o = c.args.origin.now in
    let rs = c.args.records.now in
    let r = c.of.result in
    let rows : c.push.new.self.items ≡ r ∷ [] =
    c.in_ok-push.ensures.items ∙ ap (λ (xs : List Row). xs ++ r ∷ []) c.in_ok-rows.ensures.items in
    let bounds : c.push-2.new.self.items ≡ 1 ∷ [] =
    c.in_ok-push-2.ensures.items ∙ ap (λ (xs : List ℕ). xs ++ 1 ∷ []) c.in_ok-bounds.ensures.items
    in
    subst (λ (xs : List Row). Growing o rs xs c.push-2.new.self.items 0) (sym rows)
    (subst (λ (xs : List ℕ). Growing o rs (r ∷ []) xs 0) (sym bounds)
    (begin o rs r c.of.ensures.row))

pub rows-preserved : goal.rows-preserved
rows-preserved c =
    let o = c.args.origin.now in
    let rs = c.args.records.now in
    let rows = c.rows.rows.items in
    let rows' = c.add_children.new.rows.items in
    let i = c.rows.number in
    let count : c.len.result ≡ length rows =
    c.len.ensures
    ∙ (let e : vec_len c.rows.rows ≡ length rows = omega (arith, c.rows.rows.ok.0) in e) in
    let count' : c.len-in-rows.result ≡ length rows' =
    c.len-in-rows.ensures
    ∙ (let e : vec_len c.add_children.new.rows ≡ length rows' =
    omega (arith, c.add_children.new.rows.ok.0) in e) in
    let less : i < length rows =
    other_than i (length rows) c.rows.invariant.upto
    (λ e. c.if-number-len.false (sym e ∙ sym count)) in
    subst (λ (bs : List ℕ). Growing o rs rows' bs (i + 1))
    (sym (c.in_ok-push-3.ensures.items
    ∙ ap (λ (k : ℕ). c.rows.bounds.items ++ k ∷ []) (c.in_ok-to_u32.ensures ∙ count')))
    (advance o rs rows c.rows.bounds.items i c.rows.invariant less rows' c.in_ok-add_children.ensures)
