use Rattle.dns_zone.proofs.Common.{rules, ◌≡◌, ◌-◌, suc, take, sym, ◌∙◌, subst, arith, refl, false≢true, IsPartitionedBy, name_order, ZoneContents, Less, AllByRecursion, octets_equal-decides, is_upto, owner_of, AreChecked, IsFront}
use Rattle.dns_zone.proofs.GrowingNames.{owners_parted, origin_owns, origin_added, others_before}
use Rattle.dns_zone.proofs.names.add_origin.Goals as goal
use Rattle.dns_zone.proofs.names.add_origin.Goals.{else-place-gt0-via-then-place-gt0+else-eq, else-place-gt0-via-else-place-gt0}

pub count_upto-place-requires : goal.count_upto-place-requires
count_upto-place-requires c =
    subst (IsPartitionedBy (is_upto c.args.key.now)) (sym c.as_slice.ensures.value)
    (owners_parted (record { origin = c.args.origin.now; records = c.args.records.now })
    c.requires.lower c.requires.ordered c.args.names.now.items c.requires.owners c.args.key.now
    c.requires.key)

pub returns-then-eq : goal.returns-then-eq
returns-then-eq c = search (rules, origin_owns, octets_equal-decides)

pub returns : goal.returns
returns c =
    let z : ZoneContents = record { origin = c.args.origin.now; records = c.args.records.now } in
    let k = c.count_upto-place.result in
    let names = c.args.names.now.items in
    let front = subst (λ xs. IsFront (is_upto c.args.key.now) xs k) c.as_slice.ensures.value
    c.count_upto-place.ensures in
    let before : AllByRecursion (λ d. name_order (owner_of z d) z.origin ≡ Less) (take k names) =
    elim c.else-place-gt0.branch [
      | else-place-gt0-via-then-place-gt0+else-eq w ↦
          let next : k ≡ suc (k - 1) = omega arith in
          others_before z c.requires.lower c.requires.ordered names c.requires.owners
          c.args.key.now c.requires.key k front (k - 1) next w.index.result.now w.index.ensures
          (λ e. false≢true (sym w.if-eq.false ∙ w.eq.ensures
          ∙ (octets_equal-decides w.index.result.now.key.now c.args.key.now).1 e))
      | else-place-gt0-via-else-place-gt0 w ↦
          let none : 0 ≡ k = omega arith in
          subst (λ j. AllByRecursion (λ d. name_order (owner_of z d) z.origin ≡ Less)
          (take j names)) none tt
    ] in
    subst (AreChecked z) (sym c.in_ok-insert.ensures.items)
    (origin_added z c.requires.lower c.requires.ordered names c.requires.owners c.args.key.now
    c.requires.key k front before c.args.key refl)
