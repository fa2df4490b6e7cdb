use Rattle.std.specs.Bool.{OnTrue}
use Rattle.dns_spec.specs.Checks.{below_cut, owns_such, is_address_type}
use Rattle.dns_zone.proofs.Common.{◌≡◌, refl, Bool, true, false, [], not, ◌&&◌, sym, ap, ◌∙◌, subst, ttls_differ, reported_at, NameOfZone}
use Rattle.dns_zone.proofs.PlainRecords.{plain, right}
use Rattle.dns_zone.proofs.checks.owner.Owner.is_plain.Goals as goal
use Rattle.dns_zone.proofs.checks.owner.Owner.is_plain.Goals.{then-self-2, else-self-2}

pub returns-then-is_under : goal.returns-then-is_under
returns-then-is_under c = go c.has_other_ttls.result refl
  where
    cut : (below_cut c.self.inside.context.now c.self.inside.name.now
        && owns_such c.self.inside.context.now c.self.inside.name.now
        (λ t. not (is_address_type t))) ≡ false
    cut = elim c.if-self-2.branch [
      | then-self-2 w ↦ right _ _ (ap (λ (v : NameOfZone). owns_such v.zone v.name
          (λ t. not (is_address_type t))) c.self.view_is
          ∙ sym w.owns_other_than_address.ensures ∙ sym w.value-is
          ∙ c.if-owns_other_than_address.false)
      | else-self-2 w ↦ ap (λ b. b && owns_such c.self.inside.context.now c.self.inside.name.now
          (λ t. not (is_address_type t))) (sym c.self.invariant.2 ∙ w.if-self-2.false)
    ]

    go : (b : Bool) → c.has_other_ttls.result ≡ b
        → OnTrue (not b) (reported_at c.args.self.now.zone c.args.self.now.name ≡ [])
    go true e = tt
    go false e =
        let o = c.self.inside in
        let is = c.self.invariant in
        subst (λ (v : NameOfZone). reported_at v.zone v.name ≡ []) c.self.view_is
        (plain o.context.now o.name.now o.own.now is.0 (sym is.3 ∙ c.if-self.false)
        (sym (c.is_under.ensures o.name.now o.context.now.origin is.0.lower c.key.ensures.lower
        is.1 c.key.ensures.value) ∙ c.if-is_under.true)
        (sym c.have_plain_types.ensures ∙ c.if-not-have_plain_types.false) cut
        c.if-self-gt-MOST_SETS.false
        (ap (λ (v : NameOfZone). ttls_differ v.zone v.name) c.self.view_is
        ∙ sym c.has_other_ttls.ensures ∙ e))
