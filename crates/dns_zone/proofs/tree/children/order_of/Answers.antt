use Rattle.dns_zone.proofs.Common.{List, ◌≡◌, ◌≤◌, ◌⊎◌, inl, inr, map, length, drop, subst, sym, ap, ap₂, ◌∙◌, nat_cmp, arith, to_ascii_lowercase, label_order, ResourceRecord, length-map, drop-map, IsEight, IsKey, row_label, row_name, IsRow, Row, Octets}
use Rattle.dns_zone.specs.declared.tree.label_key.LabelKey.{LabelKey}
use Rattle.dns_zone.specs.TreeForm.{first_of as first_label}
use Rattle.dns_zone.proofs.LabelKeys.{first_lower, front_order, next_order, by_length, after_key}
use Rattle.dns_zone.proofs.tree.children.order_of.Goals as goal

module _ (rs : List ResourceRecord) (row : Row) (key : LabelKey) (label : Octets)
    (is_row : IsRow rs row (row_name rs row)) (is_key : IsKey key label)
    (front : row.key.front ≡ key.front) where
  abbrev pub own : Octets
  own = row_label rs row

  own_key : IsKey row.key own
  own_key = subst (IsKey row.key) (first_lower (row_name rs row) is_row.lower) is_row.key

  own_front : IsEight key.front own
  own_front = subst (λ k. IsEight k own) front own_key.front

  pub next : (row.key.next ≡ key.next → ⊥) → nat_cmp row.key.next key.next ≡ label_order own label
  next n = next_order own_front is_key.front own_key.next is_key.next n

  module _ (e : row.key.next ≡ key.next) where
    own_next : IsEight key.next (drop 8 own)
    own_next = subst (λ k. IsEight k (drop 8 own)) e own_key.next

    pub shorter : (length own ≤ 16) ⊎ (length label ≤ 16)
        → nat_cmp (length own) (length label) ≡ label_order own label
    shorter s = by_length own_front is_key.front own_next is_key.next s

    pub longer : 16 ≤ length own → 16 ≤ length label
        → label_order (drop 16 own) (drop 16 label) ≡ label_order own label
    longer l m = after_key own_front is_key.front own_next is_key.next l m

pub returns-then-row-key : goal.returns-then-row-key
returns-then-row-key c =
    let row = c.args.row.now in
    let own = first_lower (row_name c.args.records.now row) c.requires.row.lower in
    c.cmp.ensures
    ∙ front_order (subst (λ l. IsEight row.key.front l) own c.requires.row.key.front)
    c.requires.key.front c.if-row-key.true

pub returns-then-row-key-2 : goal.returns-then-row-key-2
returns-then-row-key-2 c =
    c.cmp-then-row-key-2.ensures
    ∙ next c.args.records.now c.args.row.now c.args.key.now (map to_ascii_lowercase
    c.args.label.now) c.requires.row c.requires.key c.if-row-key.false c.if-row-key-2.true

pub returns-then-count-le-KEY_OCTETS : goal.returns-then-count-le-KEY_OCTETS
returns-then-count-le-KEY_OCTETS c =
    let label = map to_ascii_lowercase c.args.label.now in
    let count = length-map c.args.label.now to_ascii_lowercase in
    let own_count = c.from-count.ensures ∙ c.requires.row.label_octets in
    let short : (length (row_label c.args.records.now c.args.row.now) ≤ 16)
    ⊎ (length label ≤ 16) = elim c.then-count-le-KEY_OCTETS.either [
      | inl h ↦ inl (omega arith)
      | inr h ↦ inr (let few = h.1 in omega arith)
    ] in
    c.cmp-then-count-le-KEY_OCTETS.ensures ∙ ap₂ nat_cmp own_count (sym count)
    ∙ shorter c.args.records.now c.args.row.now c.args.key.now label c.requires.row
    c.requires.key c.if-row-key.false c.if-row-key-2.false short

pub order_to-requires : goal.order_to-requires
order_to-requires c =
    let own = c.first_label_octets-own.result.now in
    let lower : map to_ascii_lowercase own ≡ own =
    subst (λ l. map to_ascii_lowercase l ≡ l) (sym (c.first_label_octets-own.ensures.value
    ∙ ap first_label (c.new.ensures.value ∙ c.octets_of.ensures.name)))
    (first_lower (row_name c.args.records.now c.args.row.now) c.requires.row.lower) in
    ap (map to_ascii_lowercase) c.split_at.ensures.back
    ∙ sym (drop-map to_ascii_lowercase 16 own) ∙ ap (drop 16) lower ∙ sym c.split_at.ensures.back

pub returns : goal.returns
returns c =
    let count = length-map c.args.label.now to_ascii_lowercase in
    let own_count = c.requires.row.label_octets in
    let long = c.if-count-le-KEY_OCTETS.false in
    let asked = c.if-label-le-KEY_OCTETS.false in
    c.order_to.ensures
    ∙ ap₂ label_order (c.split_at.ensures.back ∙ ap (drop 16) (c.first_label_octets-own.ensures.value
    ∙ ap first_label (c.new.ensures.value ∙ c.octets_of.ensures.name)))
    (ap (map to_ascii_lowercase) c.split_at-2.ensures.back
    ∙ sym (drop-map to_ascii_lowercase 16 c.args.label.now))
    ∙ longer c.args.records.now c.args.row.now c.args.key.now (map to_ascii_lowercase
    c.args.label.now) c.requires.row c.requires.key c.if-row-key.false c.if-row-key-2.false
    (omega arith) (omega arith)
