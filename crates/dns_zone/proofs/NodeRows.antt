-- The nodes of a zone by their rows.
use Rattle.dns_zone.proofs.Common.{◌≡◌, ℕ, ◌+◌, ◌-◌, ◌<◌, ◌≤◌, true, List, [], ◌∷◌, length, drop, get_or, sym, ap, ◌∙◌, arith, subst, length-take, get_or-take, get_or-drop, get_or_default, list_any, Octets, DomainName, at_or_below, ResourceRecord, exists, AllByRecursion, each_weaker, contains_among, IsNode, IsZoneNode, first_of, row_name, row_label, row_at, children_at, IsRow, IsChild, AreChildren, Row, Tree}
use Rattle.dns_zone.proofs.Spans.{in_span}
use Rattle.dns_zone.proofs.ChildRows.{is_under}
use Rattle.dns_zone.proofs.GrowingChildren.{row_is}
use Rattle.dns_zone.proofs.GrowingTree.{own_name}
use Rattle.dns_spec.proofs.General.Elements.{each_get}
use Rattle.dns_spec.proofs.General.Tests.{among_any}

-- the name of a row exists
pub row_exists : (rs : List ResourceRecord) (row : Row) (n : DomainName) → IsRow rs row n
    → list_any (λ (r : ResourceRecord). at_or_below r.owner n) rs ≡ true
row_exists rs row n h =
    let d : ResourceRecord = record { owner = []; ttl = 0; rtype = 0; rdata = [] } in
    let order : row.first ≤ row.end = let a = h.more in omega arith in
    let here =
    in_span (is_under n) rs row.first row.end order h.below row.first d (omega arith) h.more
    h.end_fits in
    among_any (is_under n) (get_or rs row.first d) rs
    (contains_among (get_or rs row.first d) rs
    (row.first, h.some, get_or_default rs row.first (get_or rs row.first d) d h.some)) here

module _ (t : Tree) (k : ℕ) (at : IsZoneNode t k) where
  abbrev rs : List ResourceRecord
  rs = t.zone.records

  abbrev row : Row
  row = row_at t.rows k

  abbrev name : DomainName
  name = row_name rs row

  pub is_row : IsRow rs row name
  is_row = at.kept.tree.each k at.row

  pub node_is : IsNode t.zone name
  node_is = record {
    built = at.kept.built;
    lower = is_row.lower;
    stands = row_exists rs row name is_row;
  }

  abbrev start : ℕ
  start = get_or t.bounds k 0

  abbrev end : ℕ
  end = get_or t.bounds (k + 1) 0

  abbrev children : List Row
  children = children_at t.rows t.bounds k

  pub are_children : AreChildren rs name children
  are_children = at.kept.tree.children k at.row

  pub child_rows : AllByRecursion (λ c. IsRow rs c (row_name rs c)) children
  child_rows =
      each_weaker (IsChild rs name) (λ c. IsRow rs c (row_name rs c)) children
      (λ c h. own_name rs c (h.label ∷ name) h.is_row) are_children.each

  -- a child by its index among the children
  module _ (i : ℕ) (fits : i < length children) where
    size : length children ≤ end - start
    size = omega (arith, length-take (end - start) (drop start t.rows))

    pub row_of_child : row_at t.rows (start + i) ≡ row_at children i
    row_of_child = grind (arith, size, get_or-take, get_or-drop)

    the_child : IsChild rs name (row_at children i)
    the_child = each_get (IsChild rs name) children i _ are_children.each fits

    pub child_name : row_name rs (row_at t.rows (start + i)) ≡ row_label rs (row_at children i) ∷ name
    child_name =
        let whole = row_is rs (row_at children i) (the_child.label ∷ name) the_child.is_row in
        ap (row_name rs) row_of_child ∙ whole ∙ ap (λ (n : DomainName). first_of n ∷ name) (sym whole)

    pub child_exists : exists t.zone (row_label rs (row_at children i) ∷ name) ≡ true
    child_exists =
        let whole = row_is rs (row_at children i) (the_child.label ∷ name) the_child.is_row in
        subst (λ (l : Octets). exists t.zone (l ∷ name) ≡ true) (sym (ap first_of whole))
        (row_exists rs (row_at children i) (the_child.label ∷ name) the_child.is_row)
