use Rattle.dns_zone.proofs.Common.{rules, ◌≡◌, ◌≤◌, ◌<◌, length, ℕ, ◌+◌, List, [], ◌∷◌, ◌++◌, get_or, arith, refl, sym, ap, subst, ◌∙◌, length-append, cases_lt, get_or_append_left, get_or_default, Octets, DomainName, ResourceRecord, IsReadRecord, All, All-nil, All-push, All-weaker, take_all, get_or-append_seam, All-more, names_equal-decides, labels_of_spelled, name_key, key_in, AreFronts, IsSortKey, SortKey, placed}
use Rattle.dns_zone.proofs.OwnerKeys.{key_stays, key_added}
use Rattle.dns_zone.proofs.order.owner_keys.keys_of.Goals as goal
use Rattle.dns_zone.proofs.order.owner_keys.keys_of.Goals.{then-ne+in_ok-extend_from_slice-2, else-ne}

fronts_are : (a b o key : Octets) (f i : ℕ) → a ≡ o → b ≡ key → AreFronts a b f i
    → AreFronts o key f i
fronts_are a b o key f i e g h = grind (arith, e, g, h)

pub records-init : goal.records-init
records-init c =
    let last =
    c.new-last.ensures.value
    ∙ labels_of_spelled _ _ c.octets-2.ensures.value c.octets-2.ensures.is_name in
    let keys : c.extend_from_slice.new.self.items ≡ name_key c.args.origin.now = search rules in
    let added = key_added [] [] c.args.origin.now in
    let first : key_in c.extend_from_slice.new.self.items 0 c.args.origin.now
    ≡ name_key c.args.origin.now = grind (arith, keys, added) in
    let none = c.in_ok-sort_keys.ensures.items in
    record {
      key = c.of-key.ensures ∙ ap name_key (sym last);
      last = grind (arith, c.of-sort_key.ensures.start, last, first);
      fronts = fronts_are _ _ _ _ _ _ (c.octets-3.ensures.value ∙ c.of-first.ensures)
          (c.octets-4.ensures.value ∙ c.of-key.ensures ∙ ap name_key (sym last))
          c.of-sort_key.ensures.fronts;
      origin = first;
      count = ap length none;
      at = λ i d l. absurd (omega (arith, l, ap length none));
      each = grind (arith, none, All-nil);
      few = grind arith;
      read = All-nil IsReadRecord;
    }

abbrev IsAt : Octets → ℕ → DomainName → Type 0
IsAt keys start n = key_in keys start n ≡ name_key n

-- the list of keys after the key of n was added to it, or found to be its last key
record Added (origin old new key : Octets) (sort_key : SortKey) (last n : DomainName) : Type 0 where
  pub key_is : key ≡ name_key n
  pub stays : (m : DomainName) (s : ℕ) → IsAt old s m → IsAt new s m
  pub at : IsAt new sort_key.start n
  pub fronts : AreFronts origin (name_key n) sort_key.front sort_key.next
  pub fits : length new ≤ length old + 255
  pub is : last ≡ n

key_put : (origin old new key : Octets) (sort_key : SortKey) (last n : DomainName) → key ≡ name_key n
    → new ≡ old ++ name_key n → sort_key.start ≡ length old
    → AreFronts origin (name_key n) sort_key.front sort_key.next → last ≡ n
    → length (name_key n) ≤ 255 → Added origin old new key sort_key last n
key_put origin old new key sort_key last n k e f fronts g bound = rw (e, g) (record {
  key_is = k;
  stays = key_stays old (name_key n);
  at = subst (λ s. IsAt (old ++ name_key n) s n) (sym f) (key_added old [] n);
  fronts = fronts;
  fits = omega (arith, bound, length-append old (name_key n));
  is = refl;
})

key_kept : (origin old new key : Octets) (sort_key : SortKey) (last m n : DomainName)
    → key ≡ name_key m → new ≡ old → last ≡ m → n ≡ m → IsAt old sort_key.start m
    → AreFronts origin (name_key m) sort_key.front sort_key.next → Added origin old new key sort_key last n
key_kept origin old new key sort_key last m n k e g h at fronts = rw (e, g, h) (record {
  key_is = k;
  stays = λ _ _ a. a;
  at = at;
  fronts = fronts;
  fits = omega arith;
  is = refl;
})

at_pushed : (ps : List SortKey) (p : SortKey) → p.at ≡ length ps
    → ((i : ℕ) (d : SortKey) → i < length ps → (get_or ps i d).at ≡ i)
    → (i : ℕ) (d : SortKey) → i < length (ps ++ p ∷ []) → (get_or (ps ++ p ∷ []) i d).at ≡ i
at_pushed ps p e h i d l =
    grind (
      arith,
      cases_lt i (length ps),
      get_or_append_left ps (p ∷ []) d i,
      h i d,
      get_or-append_seam ps p [] d,
      length-append ps (p ∷ []),
    )

pub records-preserved : goal.records-preserved
records-preserved c =
    let n = c.owner-owner.result in
    let o = name_key c.args.origin.now in
    let old = c.records.keys.items in
    let new = c.if-ne.keys.items in
    let last = c.if-ne.last in
    let sort_key = c.if-ne.sort_key in
    let k = c.records.each-index in
    let rs = c.args.records.now in
    let inv = c.records.invariant in
    let here : (r : ResourceRecord) → (get_or rs k r).owner ≡ n =
    λ r. ap (λ (s : ResourceRecord). s.owner)
    (get_or_default rs k r c.each-item.result c.records-test.true ∙ sym c.each-item.is)
    ∙ sym c.owner-owner.ensures.value in
    let added : Added o old new c.if-ne.key sort_key last n = elim c.if-ne.branch [
      | then-ne+in_ok-extend_from_slice-2 w ↦
          let is = w.key-is ∙ w.move_to.ensures in
          let more : w.octets-then-ne-3.result.now ≡ name_key n = search (rules, is) in
          let bound = w.octets-then-ne-3.ensures.bound in
          let fronts = fronts_are _ _ o (name_key n) _ _ (search rules) (search (rules, is))
          w.of-sort_key-then-ne.ensures.fronts in
          key_put o old new c.if-ne.key sort_key last n is (search (rules, more)) (search rules)
          (grind (arith, w.sort_key-is, fronts)) w.last-is (omega (arith, bound, ap length more))
      | else-ne w ↦
          let same : n ≡ c.records.last =
          (names_equal-decides n c.records.last).0 (search rules) in
          key_kept o old new c.if-ne.key sort_key last _ n (w.key-is ∙ inv.key) (search rules) w.last-is same
          (grind (arith, w.sort_key-is, inv.last)) (grind (arith, w.sort_key-is, inv.fronts))
    ] in
    let ps = c.records.sort_keys.items in
    let pushed : SortKey = record {
      front = sort_key.front;
      next = sort_key.next;
      at = c.len-in-records.result;
      start = sort_key.start;
    } in
    let items : c.push.new.self.items ≡ ps ++ pushed ∷ [] = search rules in
    let at : pushed.at ≡ length ps = search rules in
    let index : pushed.at ≡ k = at ∙ inv.count in
    let owner : (r : ResourceRecord) → (placed rs r pushed).owner ≡ n =
    λ r. ap (λ j. (get_or rs j r).owner) index ∙ here r in
    let is_place : IsSortKey o new rs pushed = record {
      inside = grind (arith, index, c.records-test.true);
      key = λ r. grind (arith, owner r, added.at);
      fronts = λ r. grind (arith, owner r, added.fronts);
    } in
    record {
      key = added.key_is ∙ ap name_key (sym added.is);
      last = grind (arith, added.is, added.at);
      fronts = grind (arith, added.is, added.fronts);
      origin = added.stays c.args.origin.now 0 inv.origin;
      count = grind (arith, items, length-append ps, inv.count);
      at = rw items (at_pushed ps pushed at inv.at);
      each = rw items
          (All-push (IsSortKey o new rs) ps pushed (All-weaker (IsSortKey o old rs) (IsSortKey o new rs)
          (λ p h. record {
            inside = h.inside;
            key = λ r. added.stays (placed rs r p).owner p.start (h.key r);
            fronts = h.fronts;
          }) ps inv.each) is_place);
      few = grind (arith, inv.few, added.fits);
      read = All-more IsReadRecord rs k c.each-item.result c.records-test.true inv.read
          (subst IsReadRecord c.each-item.is c.owner-owner.ensures.read);
    }

pub returns-clause-read : goal.returns-clause-read
returns-clause-read c =
    subst (All IsReadRecord) (take_all c.records.each-index c.args.records.now c.records-test.false)
    c.records.invariant.read
