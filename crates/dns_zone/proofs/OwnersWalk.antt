-- A walk over records of a zone in canonical order, owner by owner.
use Rattle.dns_zone.proofs.Common.{◌≡◌, ℕ, ◌+◌, Bool, true, false, not, cond, List, [], ◌∷◌, ◌++◌, ◌<◌, length, take, drop, refl, sym, ap, ◌∙◌, arith, subst, filter, is_gt, Less, false≢true, false_from_ne_true, length-filter_both, All-head, prefix_len, IsPartitionedBy, DomainName, folded, same, names_equal, name_order, ResourceRecord, ZoneContents, at, record_order, recursion_from_All, All-from_recursion, record_order_total, each_filter, filter_each, each_weaker, AreOrdered, IsOwner, first_owner, begins_with_owner, owners_once}
use Rattle.dns_zone.proofs.NameOrder.{same-is, same-from, same-tied}
use Rattle.dns_zone.proofs.AtName.{is_at, OwnerNotAfter, ordered_records, owners_in_order}
use Rattle.dns_zone.proofs.ChildRows.{at_in_front}
use Rattle.dns_zone.proofs.NameTree.{itself-under}
use Rattle.dns_zone.proofs.OwnRecords.{own_types}
use Rattle.dns_zone.proofs.ReportedNames.{greater_after}
use Rattle.dns_spec.proofs.General.Elements.{each_both}
use Rattle.dns_spec.proofs.General.Filters.{filter_all, filter_within}
use Rattle.dns_spec.proofs.General.Pairs.{Pairs, pairs_filter, unmoved}
use Rattle.dns_spec.proofs.General.Fronts.{front}
use Rattle.std.specs.Prelude.{All}

-- Records in canonical order that include, for each of their owners, all of the zone's records of
-- that owner.
pub record HasOwners (z : ZoneContents) (rs : List ResourceRecord) : Type 0 where
  pub ordered : AreOrdered rs
  pub all : All (λ (r : ResourceRecord). filter (λ (s : ResourceRecord). same s.owner r.owner) rs
      ≡ at z r.owner) rs

-- the first of a name's records is counted without a test
pub one_more : (n : DomainName) (r : ResourceRecord) (rs : List ResourceRecord) (k : ℕ)
    → n ≡ r.owner → k ≡ prefix_len (is_at n) rs → 1 + k ≡ prefix_len (is_at n) (r ∷ rs)
one_more n r rs k e f = grind (arith, is_at, same-from)

-- the records that pass a test remain ordered
ordered_filter : (p : ResourceRecord → Bool) (rs : List ResourceRecord)
    → AreOrdered rs → AreOrdered (filter p rs)
ordered_filter p rs h = unmoved record_order record_order_total (filter p rs)
    (pairs_filter (λ r s. is_gt (record_order r s) ≡ false) p rs (ordered_records rs h))

module _ (z : ZoneContents) where
  abbrev IsAll : List ResourceRecord → ResourceRecord → Type 0
  IsAll rs r = filter (is_at r.owner) rs ≡ at z r.owner

  -- a test of owners keeps all records of an owner, or none
  pub kept_owners : (p : ResourceRecord → Bool) (rs : List ResourceRecord)
      → ((s r : ResourceRecord) → same s.owner r.owner ≡ true → p r ≡ true → p s ≡ true)
      → HasOwners z rs → HasOwners z (filter p rs)
  kept_owners p rs f h = record {
    ordered = ordered_filter p rs h.ordered;
    all = All-from_recursion (IsAll (filter p rs)) (filter p rs)
        (each_both (λ r. p r ≡ true) (IsAll rs) (IsAll (filter p rs)) (filter p rs)
        (λ r t e. filter_within p (is_at r.owner) rs (λ s g. f s r g t) ∙ e)
        (filter_each p rs) (each_filter (IsAll rs) p rs (recursion_from_All (IsAll rs) rs h.all)));
  }

  at_one : (o : DomainName) (s r : ResourceRecord)
      → same s.owner r.owner ≡ true → is_at o s ≡ is_at o r
  at_one o s r g = ap (λ (k : DomainName). names_equal k (folded o)) (same-is s.owner r.owner g)

  pub others_owners : (n : DomainName) (rs : List ResourceRecord)
      → HasOwners z rs → HasOwners z (filter (λ r. not (is_at n r)) rs)
  others_owners n rs =
      kept_owners (λ r. not (is_at n r)) rs (λ s r g t. ap not (at_one n s r g) ∙ t)

  -- the owner of the first record
  module _ (r : ResourceRecord) (rs : List ResourceRecord) (h : HasOwners z (r ∷ rs)) where
    pub first_is_owner : folded r.owner ≡ r.owner
        → IsOwner z r.owner (filter (is_at r.owner) (r ∷ rs))
    first_is_owner low = record {
      lower = low;
      own_is = All-head (IsAll (r ∷ rs)) r rs h.all;
      by_types = own_types (record { origin = z.origin; records = r ∷ rs }) r.owner h.ordered;
    }

    itself : same r.owner r.owner ≡ true
    itself = same-from r.owner r.owner refl

    pub first_parted : IsPartitionedBy (is_at r.owner) (r ∷ rs)
    first_parted = search (arith, at_in_front, owners_in_order, itself-under, itself)

-- the owners are the first record's, and the owners of the records at other names
without_first : (p : ResourceRecord → Bool) (r : ResourceRecord) (rs : List ResourceRecord)
    → p r ≡ true → filter (λ s. not (p s)) (r ∷ rs) ≡ filter (λ s. not (p s)) rs
without_first p r rs e = grind (arith, filter)

pub once_others : (r : ResourceRecord) (rs : List ResourceRecord)
    → Pairs OwnerNotAfter (r ∷ rs) → owners_once
    (r ∷ rs) ≡ folded r.owner ∷ owners_once (filter (λ s. not (is_at r.owner s)) (r ∷ rs))
once_others r [] h = grind (arith, folded, owners_once, without_first, is_at, same-from)
once_others r (q ∷ rs) h = go (begins_with_owner r.owner (q ∷ rs)) refl (once_others q rs h.1)
  where
    rest : filter
        (λ s. not (is_at r.owner s)) (r ∷ q ∷ rs) ≡ filter (λ s. not (is_at r.owner s)) (q ∷ rs)
    rest = without_first (is_at r.owner) r (q ∷ rs) (same-from r.owner r.owner refl)

    go : (b : Bool) → same q.owner r.owner ≡ b → owners_once
        (q ∷ rs) ≡ folded q.owner ∷ owners_once (filter (λ s. not (is_at q.owner s)) (q ∷ rs))
        → (cond b [] (folded r.owner ∷ [])) ++ owners_once
        (q ∷ rs) ≡ folded r.owner ∷ owners_once (filter (λ s. not (is_at r.owner s)) (r ∷ q ∷ rs))
    go true e f =
        f ∙ ap (λ (k : DomainName). k ∷ owners_once
        (filter (λ (s : ResourceRecord). not (names_equal (folded s.owner) k)) (q ∷ rs)))
        (same-is q.owner r.owner e) ∙ ap (λ ss. folded r.owner ∷ owners_once ss) (sym rest)
    go false e f =
        ap (λ ss. folded r.owner ∷ owners_once ss)
        (sym (rest ∙ filter_all (λ s. not (is_at r.owner s)) (q ∷ rs)
        (each_weaker (λ s. name_order (folded r.owner) (folded s.owner) ≡ Less)
        (λ s. not (is_at r.owner s) ≡ true) (q ∷ rs) other (greater_after r (q ∷ rs) h e))))
      where
        other : (s : ResourceRecord)
            → name_order (folded r.owner) (folded s.owner) ≡ Less → not (is_at r.owner s) ≡ true
        other s l = grind (arith, false_from_ne_true, false≢true, same-tied, same-from, same-is)

-- the records rs are `own`, those of the first owner n, and `others`, with which the walk goes on
pub record Step
    (z : ZoneContents) (n : DomainName) (rs own others : List ResourceRecord) : Type 0 where
  pub is_owner : IsOwner z n own
  pub has_owners : HasOwners z others
  pub names : owners_once rs ≡ n ∷ owners_once others
  pub fewer : length others < length rs
  pub first : (o : DomainName) → first_owner o own ≡ n

-- how the walk separates the records of a name from the others
pub record IsTaken (n : DomainName) (k : ℕ) (rs own others : List ResourceRecord) : Type 0 where
  pub count : k ≡ prefix_len (is_at n) rs
  pub own_is : own ≡ take k rs
  pub others_are : others ≡ drop k rs

step_first : (z : ZoneContents) (r : ResourceRecord) (rs own others : List ResourceRecord) (k : ℕ)
    → folded r.owner ≡ r.owner → HasOwners z (r ∷ rs)
    → IsTaken r.owner k (r ∷ rs) own others → Step z r.owner (r ∷ rs) own others
step_first z r rs own others k low h t =
    let parts = front (is_at r.owner) (r ∷ rs) (first_parted z r rs h) in
    let own_is : own ≡ filter (is_at r.owner) (r ∷ rs) = grind (arith, t.own_is, t.count, parts) in
    let others_are : others ≡ filter (λ s. not (is_at r.owner s)) (r ∷ rs) =
    grind (arith, t.others_are, t.count, parts) in
    let after = without_first (is_at r.owner) r rs (same-from r.owner r.owner refl) in
    let both = length-filter_both (is_at r.owner) (λ s. not (is_at r.owner s)) (λ s. refl) rs in
    record {
      is_owner = subst (IsOwner z r.owner) (sym own_is) (first_is_owner z r rs h low);
      has_owners = subst (HasOwners z) (sym others_are) (others_owners z r.owner (r ∷ rs) h);
      names = grind (arith, once_others r rs (owners_in_order (r ∷ rs) h.ordered), low, others_are);
      fewer = omega (arith, ap length others_are, ap length after);
      first = grind arith;
    }

pub step : (z : ZoneContents) (n : DomainName) (r : ResourceRecord)
    (rs ss own others : List ResourceRecord) (k : ℕ) → n ≡ r.owner → folded n ≡ n
    → ss ≡ r ∷ rs → HasOwners z ss → IsTaken n k ss own others → Step z n ss own others
step z n r rs ss own others k f low e h t =
    let first = step_first z r rs own others k in
    grind (arith, first, f, low, e, h, t)
