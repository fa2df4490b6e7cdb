use Rattle.dns_zone.proofs.Common.{◌≡◌, ◌∷◌, map, refl, true, sym, ap, ◌∙◌, subst, false≢true, to_ascii_lowercase, Octets, exists, Among, row_name, row_label, row_at, child_rows}
use Rattle.dns_zone.proofs.Existing.{child-exists}
use Rattle.dns_zone.proofs.NodeRows.{is_row, are_children, child_exists}
use Rattle.dns_zone.proofs.tree.search.child_of.Goals as goal

pub returns-in_err-found-clause-child : goal.returns-in_err-found-clause-child
returns-in_err-found-clause-child c =
    let t = c.args.children.now.tree in
    let absent : exists t.zone
    (c.args.label.now ∷ row_name t.zone.records (row_at t.rows c.args.children.now.row)) ≡ true
    → Among (map to_ascii_lowercase c.octets.result.now)
    (map (row_label t.zone.records) (child_rows c.args.children.now)) =
    λ h. subst (λ (x : Octets). Among x
    (map (row_label t.zone.records) (child_rows c.args.children.now)))
    (ap (map to_ascii_lowercase) (sym c.octets.ensures.value))
    ((are_children t c.args.children.now.row c.requires.at).all c.args.label.now h)
    in
    rw c.from_residual.ensures
    (λ h. absurd (false≢true h), λ h. absurd (c.in_err-found.ensures.none refl (absent h)))

pub returns-clause-child : goal.returns-clause-child
returns-clause-child c =
    let v = c.args.children.now in
    let n = row_name v.tree.zone.records (row_at v.tree.rows v.row) in
    let label = c.in_ok-found.ensures.found.1 ∙ ap (map to_ascii_lowercase) c.octets.ensures.value in
    let present : exists v.tree.zone (c.args.label.now ∷ n) ≡ true =
    sym (child-exists v.tree.zone c.args.label.now n (is_row v.tree v.row c.requires.at).lower)
    ∙ ap (λ (x : Octets). exists v.tree.zone (x ∷ n)) (sym label)
    ∙ child_exists v.tree v.row c.requires.at c.in_ok-found.found c.in_ok-found.ensures.found.0
    in (λ h. present, λ h. refl)
