-- What seeking a name has offered and what it cost, by what is found for it.
use Rattle.dns_answer.proofs.Common.{◌≡◌, inl, inr, ℕ, ◌+◌, ◌*◌, ◌<◌, ◌≤◌, true, false, ◌&&◌, ◌||◌, List, [], ◌∷◌, ◌++◌, map, length, None, Some, refl, sym, ap, ap₂, ◌∙◌, arith, subst, list_any, DomainName, folded, names_equal, same, type_cname, ResourceRecord, ZoneContents, at, of_type, with_owner, RecordSet, records_at, no_error, answer, Item, most_aliases, item, follows_alias, alias_set, first_target, has_any, Outcome, outcome_by, positive, negative, and_from, and_right, list_any-append, Walk, ZoneNode, IsSetOf, State, Offers, Rest, ending, Says, TookRest, asked_item, AreRecords, Took, IsApex, IsBelow, labels_below, target_at, chain_rest, names_of, aliases_left, leads_on, unsought, AreTargets, MaySeek, Seeks, HasNoAlias, IsShown, NextIs, Sought, Verdict, All, drop, All-nil, All-cons, All-head, All-tail, All-append, or_comm, or-false, length-map, length-reverse, map-append, reverse-append}
use Rattle.dns_answer.proofs.TargetLaws.{same-lower}
use Rattle.dns_answer.proofs.Taking.{Took-then, HasNodesLeft-after}
use Rattle.dns_answer.proofs.Offered.{offered-append}
use Rattle.dns_answer.proofs.Offering.{Offers-then}
use Rattle.dns_answer.proofs.EndingSets.{item-shown, of_type-shown}
use Rattle.dns_answer.proofs.AskedSets.{asked-none, asked-some, set_of-none, set_of-some}
use Rattle.dns_answer.proofs.ChainSteps.{alias-found, outcome-found, outcome-alias, ends-plain, ends-alias, goes-on, after_sets}

-- the sets of an alias are offered, and then the rest of the answer
pub says-after : {w w1 w' : State} {r : Rest} {v : Verdict} (is : List Item) (nodes : ℕ)
    → Offers w w1 is → Says w1 w' r v → Says w w' (after_sets is nodes r) v
says-after {w} {w1} {w'} {r} is nodes a h = grind (arith, Offers-then, offered-append)

-- the result of seeking a name, from what follows the sets of that name
pub sought-on : (a : Walk) (t : ℕ) (before : List DomainName) (s : DomainName) (is : List Item)
    (r : Rest) {w w1 w' : State} {b c : Walk} {v : Verdict} → chain_rest a.zone t (aliases_left
    before) before s ≡ after_sets is (labels_below a.zone s) r → Took a b (labels_below a.zone s) 2
    → TookRest b c r → Offers w w1 is → Says w1 w' r v → Seeks w w' a c t before s v
sought-on a t before s is r {w = w} {w' = w'} {c = c} {v = v} e first rest offers says = record {
  says = subst (λ r. Says w w' r v) (sym e) (says-after is (labels_below a.zone s) offers says);
  took = subst (λ (r : Rest). TookRest a c r) (sym e)
      (Took-then first rest);
}

-- the names that were sought, the last one first
any-names : (n : DomainName) (ss : List Sought)
    → list_any (λ (s : Sought). same n s.name) ss ≡ list_any (same n) (names_of ss)
any-names n [] = refl
any-names n (s ∷ ss) =
    let p = same n s.name in
    let q = list_any (same n) (names_of ss) in
    ap (λ b. p || b) (any-names n ss) ∙ or_comm p q ∙ ap (λ b. q || b) (sym (or-false p))
    ∙ sym (ap (list_any (same n)) (reverse-append (s.name ∷ []) (map (λ (s : Sought). s.name) ss))
    ∙ list_any-append (same n) (names_of ss) (s.name ∷ []))

-- names in lower case are the same if they are equal
any-lower : (n : DomainName) (ss : List Sought)
    → folded n ≡ n → All (λ (s : Sought). folded s.name ≡ s.name) ss → list_any
    (λ (s : Sought). names_equal n s.name) ss ≡ list_any (λ (s : Sought). same n s.name) ss
any-lower n [] low all = refl
any-lower n (s ∷ ss) low all =
    let is_low = λ (s : Sought). folded s.name ≡ s.name in
    ap₂ (λ a b. a || b) (same-lower n s.name low (All-head is_low s ss all))
    (any-lower n ss low (All-tail is_low s ss all))

pub names-more : (ss : List Sought) (s : Sought) → names_of (ss ++ s ∷ []) ≡ s.name ∷ names_of ss
names-more ss s = grind (arith, map-append, reverse-append)

pub names-count : (ss : List Sought) → length (names_of ss) ≡ length ss
names-count ss = grind (arith, length-reverse, length-map)

-- a name in lower case was sought if and only if it is the last name sought or an earlier one
pub among-is : (n : DomainName) (l f : Sought) (ts earlier : List Sought) → f ∷ ts ≡ earlier
    → folded n ≡ n → AreTargets earlier l
    → (names_equal n l.name || (list_any (λ (s : Sought). names_equal n s.name) ts
    || same n f.name)) ≡ list_any (same n) (l.name ∷ names_of earlier)
among-is n l f ts earlier e low lower =
    let whole = sym e in
    let others = subst (λ es. All (λ (s : Sought). folded s.name ≡ s.name) (drop 1 es)) whole
    lower.others in
    ap₂ (λ a b. a || (b || same n f.name))
    (same-lower n l.name low (lower.last (omega (arith, ap length whole))))
    (any-lower n ts low others) ∙ ap (λ b. same n l.name || b) (or_comm _ (same n f.name)
    ∙ any-names n (f ∷ ts) ∙ ap (λ es. list_any (same n) (names_of es)) e)

-- another name may be sought after an alias
pub may-follow : {s s' : Walk} {top : ZoneNode} {earlier : List Sought} {n m : Sought}
    → MaySeek s top earlier n → Took s s' (labels_below s.zone n.name) 2
    → length earlier < most_aliases → IsBelow m s.zone.origin → folded m.name ≡ m.name
    → MaySeek s' top (earlier ++ n ∷ []) m
may-follow {s} {s'} {top} {earlier} {n} {m} may took more below low =
    let fewer = ap length (names-more earlier n) in
    let less : labels_below s.zone n.name + 2
    + 129 * (aliases_left (names_of (earlier ++ n ∷ [])) + 129)
    ≤ 129 * (aliases_left (names_of earlier) + 129) =
    omega (arith, fewer, names-count earlier, more, may.below.few) in
    record {
      apex = subst (λ z. IsApex z top) (sym took.zone) may.apex;
      below = subst (λ (z : ZoneContents). IsBelow m z.origin) (sym took.zone) below;
      lower = record { last = λ _. low; others = others earlier may.lower.last may.lower.others };
      room = HasNodesLeft-after took less may.room;
    }
  where
    others : (ss : List Sought) → (0 < length ss → folded n.name ≡ n.name)
        → All (λ (s : Sought). folded s.name ≡ s.name) (drop 1 ss)
        → All (λ (s : Sought). folded s.name ≡ s.name) (drop 1 (ss ++ n ∷ []))
    others [] last all = All-nil (λ (s : Sought). folded s.name ≡ s.name)
    others (x ∷ xs) last all =
        All-append (λ (s : Sought). folded s.name ≡ s.name) xs (n ∷ []) all
        (All-cons (λ (s : Sought). folded s.name ≡ s.name) n [] (last (omega arith))
        (All-nil (λ (s : Sought). folded s.name ≡ s.name)))

-- the records found for a name
module _ (z : ZoneContents) (t : ℕ) (before : List DomainName) (s : DomainName) (node : ZoneNode)
    (records : AreRecords z s node) where
  abbrev rs : List ResourceRecord
  rs = at node.zone node.name

  abbrev cnames : List ResourceRecord
  cnames = of_type type_cname rs

  abbrev Chain : List Item → Rest → Type 0
  Chain is r = chain_rest z t (aliases_left before) before s ≡ after_sets is (labels_below z s) r

  aliases-at : alias_set z s ≡ with_owner s cnames
  aliases-at = grind (arith, alias-found, of_type-shown)

  -- no alias among them is followed
  pub no-alias : HasNoAlias t rs → leads_on z t s ≡ false
  no-alias (inl e) = ap (λ b. b && has_any (alias_set z s)) e
  no-alias (inr e) = and_right (follows_alias t) _ (ap has_any aliases-at ∙ set_of-none s cnames e)

  unaliased : HasNoAlias t rs → (o : Outcome) → outcome_by z t None (Some (with_owner s rs)) ≡ o
      → Chain [] (ending z o)
  unaliased none o is = grind (arith, ends-plain, no-alias, outcome-found)

  none-of : HasNoAlias t rs
      → (follows_alias t && has_any (of_type type_cname (with_owner s rs))) ≡ false
  none-of none = grind (arith, of_type-shown, aliases-at, no-alias)

  pub ends-none : IsShown t rs None → Chain [] (ending z (negative z no_error))
  ends-none shown =
      unaliased shown.0 (negative z no_error) (asked-none z t s rs (none-of shown.0) shown.1)

  module _ (set : RecordSet) (kept : IsSetOf node set) where
    pub ends-asked : IsShown t rs (Some (set, false))
        → Chain [] (ending z (positive (asked_item s set)))
    ends-asked shown =
        unaliased shown.0 (positive (asked_item s set))
        (asked-some z t s rs (none-of shown.0) node set.ttl set refl kept refl shown.1)

    module _ (shown : IsShown t rs (Some (set, true))) where
      are_set : records_at node.name set.ttl set ≡ cnames
      are_set = kept.records ∙ ap (λ u. of_type u rs) shown.2

      alias-item : item answer (alias_set z s) ≡ asked_item s set
      alias-item = grind (arith, aliases-at, item-shown, are_set)

      some-alias : has_any (alias_set z s) ≡ true
      some-alias = ap has_any aliases-at ∙ set_of-some s cnames set shown.1

      pub has-alias : leads_on z t s ≡ true
      has-alias = and_from (follows_alias t) (has_any (alias_set z s)) shown.0 some-alias

      alias-leads : first_target (alias_set z s) ≡ target_at 0 set
      alias-leads = grind (arith, aliases-at, are_set)

      -- the alias is not followed
      pub alias-ends : NextIs z.origin set (s ∷ before) None
          → Chain (asked_item s set) (ending z (positive []))
      alias-ends next =
          grind (arith, ends-alias, alias-item, outcome-alias, has-alias, alias-leads)

      -- the alias is followed to another name
      pub alias-goes_on : (m : Sought) → NextIs z.origin set (s ∷ before) (Some m) → Chain
          (asked_item s set) (chain_rest z t (aliases_left (s ∷ before)) (s ∷ before) m.name)
      alias-goes_on m next =
          goes-on z t (aliases_left before) before s (aliases_left (s ∷ before)) m.name
          (asked_item s set) shown.0 alias-item
          (ap (unsought z.origin (s ∷ before)) alias-leads ∙ next.1) (omega (arith, next.0))
