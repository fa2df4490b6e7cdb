use Rattle.dns_zone.proofs.Common.{rules, ◌≡◌, ◌+◌, ◌-◌, ◌∷◌, ◌++◌, List, [], length, map, drop, sym, ap, ap₂, ◌∙◌, subst, arith, drop-drop, map_push, prefix_len, DomainName, ResourceRecord, ZoneContents, name_key, key_in, own_in, first_owner, owner_of, IsTopmost, IsChecked, IsOwner, owners_once, CheckedName}
use Rattle.dns_zone.proofs.AtName.{is_at}
use Rattle.dns_zone.proofs.GrowingNames.{LastName, root_first, comes_next, added_last, each_added, all_added}
use Rattle.dns_zone.proofs.OwnerKeys.{first_keyed}
use Rattle.dns_zone.proofs.OwnersWalk.{Step, step, one_more}
use Rattle.dns_zone.proofs.TopmostCut.{topmost_fits}
use Rattle.dns_zone.proofs.names.checked_names.Goals as goal
use Rattle.dns_zone.proofs.names.checked_names.Goals.{After-split_at, In_ok-push}

pub owners-init : goal.owners-init
owners-init c = grind (arith, root_first)

pub index-requires : goal.index-requires
index-requires c = grind arith

pub cut_of-cut-requires-clause-fits : goal.cut_of-cut-requires-clause-fits
cut_of-cut-requires-clause-fits c = grind (arith, topmost_fits)

module _ (c : After-split_at) where
  rest_is : c.owners.rest.now ≡ c.in-Some.record.now ∷ c.in-Some.others.now
  rest_is = search rules

  name_is : c.owner-owner.result ≡ c.in-Some.record.now.owner
  name_is = search rules

  taken : Step (record { origin = c.args.origin.now; records = c.args.records.now })
      c.owner-owner.result c.owners.rest.now c.split_at.result.0.now c.split_at.result.1.now
  taken =
      step _ _ c.in-Some.record.now c.in-Some.others.now _ _ _ _ name_is
      c.owner-owner.ensures.lower rest_is c.owners.invariant.whole
      (record {
        count = one_more _ c.in-Some.record.now _ _ name_is c.count_in_front.ensures.value
            ∙ ap (prefix_len (is_at c.owner-owner.result)) (sym rest_is);
        own_is = c.split_at.ensures.front;
        others_are = c.split_at.ensures.back;
      })

pub cut_of-cut-requires-clause-by_types : goal.cut_of-cut-requires-clause-by_types
cut_of-cut-requires-clause-by_types c =
    (taken (goal.at.cut_of-cut-requires-clause-by_types c).After-split_at).is_owner.by_types

module _ (c : In_ok-push) where
  abbrev z : ZoneContents
  z = record { origin = c.args.origin.now; records = c.args.records.now }

  abbrev n : DomainName
  n = c.owner-owner.result

  abbrev own : List ResourceRecord
  own = c.split_at.result.0.now

  abbrev others : List ResourceRecord
  others = c.split_at.result.1.now

  abbrev at : After-split_at
  at = (goal.at.owners-preserved c).After-split_at

  pub stepped : Step z n c.owners.rest.now own others
  stepped = taken at

  abbrev added : CheckedName
  added = record {
    key = c.key_at-next.result;
    first = c.owners.first;
    end = c.owners.first + length own;
    cut = c.cut_of-cut.result;
  }

  both : length own + length others ≡ length c.owners.rest.now
  both =
      let front = c.split_at.ensures.front_len in
      let back = c.split_at.ensures.back_len in
      let bound = c.count_in_front.ensures.bound in
      omega (arith, front, back, bound, ap length (rest_is at))

  own_there : own_in c.args.records.now added ≡ own
  own_there =
      let size : (c.owners.first + length own) - c.owners.first ≡ length own = omega arith in
      grind (arith, size, c.owners.invariant.part, c.split_at.ensures.front, c.split_at.ensures.front_len)

  name_there : owner_of z added ≡ n
  name_there = ap (first_owner c.args.origin.now) own_there ∙ stepped.first c.args.origin.now

  key : c.key_at-next.result.now ≡ name_key n
  key =
      let rest_is = rest_is at in
      let count = c.owners.invariant.count in
      c.key_at-next.ensures.value
      ∙ ap₂ (λ ks s. key_in ks s c.in-Some.record.now.owner) c.as_slice.ensures.value
      c.index.ensures
      ∙ first_keyed _ _ _ c.requires.keyed c.owners.first _ c.in-Some.record.now _
      (omega (arith, count, ap length rest_is)) (sym c.owners.invariant.part ∙ rest_is)
      ∙ ap name_key (sym (name_is at))

  whole : map (owner_of z) c.owners.names.items ++ n ∷ owners_once others
      ≡ owners_once c.args.records.now
  whole =
      ap (λ (ns : List DomainName). map (owner_of z) c.owners.names.items ++ ns)
      (sym stepped.names) ∙ c.owners.invariant.all

  names : map (owner_of z) (c.owners.names.items ++ added ∷ [])
      ≡ map (owner_of z) c.owners.names.items ++ n ∷ []
  names = grind (arith, map_push, z, c, name_there)

  topmost : IsTopmost z n c.cut_of-cut.result
  topmost =
      let last = c.owners.invariant.last in
      c.cut_of-cut.ensures z _ n
      (comes_next z c.requires.ordered _ _ n whole c.owner-owner.ensures.lower
      _ _ _ _ own (subst (λ ns. LastName z (map (owner_of z) c.owners.names.items) ns
      c.owners.last.now c.owners.cut) stepped.names last)
      c.requires.key c.requires.lower key stepped.is_owner)

  checked : IsChecked z n added
  checked =
      let count = c.owners.invariant.count in
      let size = both in
      record {
        owner = subst (IsOwner z n) (sym own_there) stepped.is_owner;
        rising = omega arith;
        within = omega (arith, count, size);
        key = key;
        topmost = topmost;
      }

pub owners-smaller : goal.owners-smaller
owners-smaller c = (stepped c).fewer

pub owners-preserved : goal.owners-preserved
owners-preserved c =
    let items = c.in_ok-push.ensures.items in
    let count = c.owners.invariant.count in
    let size = both c in
    let old = c.owners.names.items in
    record {
      all = grind (
        arith,
        items,
        whole c,
        all_added (z c) old (added c) (n c) (owners_once (others c)) (name_there c),
      );
      each = grind (
        arith,
        items,
        each_added (z c) old (added c) (n c) c.owners.invariant.each (name_there c) (checked c),
      );
      whole = (stepped c).has_owners;
      part = c.split_at.ensures.back ∙ ap (drop (1 + c.count_in_front.result))
          c.owners.invariant.part ∙ drop-drop (1 + c.count_in_front.result)
          c.owners.first c.args.records.now ∙ ap (λ k. drop (c.owners.first + k) c.args.records.now)
          (sym c.split_at.ensures.front_len);
      count = omega (arith, count, size);
      last = grind (
        arith,
        items,
        names c,
        added_last (z c) c.requires.ordered (map (owner_of (z c)) old)
            (owners_once (others c)) (n c) (whole c) c.owner-owner.ensures.lower _ _ (key c) (topmost c),
      );
    }
