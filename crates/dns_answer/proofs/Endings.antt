-- How the sets that end an answer are offered.
use Rattle.dns_answer.proofs.Common.{◌≡◌, ◌⊎◌, inl, inr, ℕ, Bool, true, not, min, List, [], ◌∷◌, ◌++◌, map, reverse, length, get_or, None, Some, refl, sym, ap, ap₂, ◌∙◌, arith, and_parts, length-map, is_some, Octets, DomainName, folded, suffixes, below, type_ns, type_soa, soa_minimum, ResourceRecord, ZoneContents, rrset, owns, RecordSet, set_of, records_at, authority, Item, item, Outcome, main_items, targets_of, negative_soa, negative, positive, referral_to, is_cut, cut_of, no_error, filter, list_all, few_soa, one_soa, IsBuilt, code_of, State, Offers, side_items, side_nodes, set_targets, Took, Ends, IsPlain, TookRest, ending, all_names, inside, not_inside, ending_targets, glue_by, others_by, Verdict, set-owned, Walk, ZoneNode, IsSetOf, IsBelowCut, IsStart, subst, false, false≢true}
use Rattle.dns_zone.specs.Nodes.{IsNode}
use Rattle.dns_answer.proofs.Taking.{Took-then, Took-within}
use Rattle.dns_answer.proofs.AnswerItems.{denial-no_targets}
use Rattle.dns_answer.proofs.Offering.{Offers-is, Offers-nothing, Offers-empty, Offers-then, Offers-full}
use Rattle.dns_answer.proofs.TargetLaws.{side_items-none, items-untaken}
use Rattle.dns_answer.proofs.EndingSets.{is_target_type, targets_of_set, item-shown}
use Rattle.dns_spec.proofs.General.Tests.{found_passes}

-- the sets of an outcome are offered in their order
pub says-in_order : (z : ZoneContents) (o : Outcome) {w w1 w2 w' : State} {v : Verdict}
    → Offers w w1 (main_items o) → Offers w1 w2 (glue_by z o.referral (ending_targets o))
    → Offers w2 w' (others_by z o.referral (ending_targets o)) → code_of v.rcode ≡ o.rcode
    → v.is_referral ≡ is_some o.referral → v.is_truncated ≡ w2.full → Ends w w' z o v
says-in_order z o a g b rcode refers full =
    let first = Offers-then _ _ _ _ _ a g in
    record {
      offers = Offers-then _ _ _ _ _ first b;
      rcode = rcode;
      referral = refers;
      truncated = λ d held. full ∙ (first.builder d held).full;
    }

-- an answer without a referral
pub Ends-positive : (z : ZoneContents) (is : List Item) {w w1 w' : State} {v : Verdict}
    → Offers w w1 (is ++ []) → Offers w1 w' (side_items z all_names [] (targets_of (is ++ [])))
    → IsPlain w1 no_error v → Ends w w' z (positive is) v
Ends-positive z is a b plain =
    says-in_order z (positive is) a (Offers-nothing _) b plain.rcode plain.referral plain.truncated

-- if there are no targets, no addresses are offered
pub Offers-none : (z : ZoneContents) {w : State} (ms : List DomainName) → ms ≡ []
    → Offers w w (side_items z all_names [] ms)
Offers-none z ms e = Offers-empty _ (ap (side_items z all_names []) e ∙ side_items-none z all_names)

-- a negative answer
pub Ends-denied : (z : ZoneContents) (rcode : ℕ) (is : List Item) {w w' : State} {v : Verdict}
    → negative_soa z ≡ is → Offers w w' is → IsPlain w' rcode v → Ends w w' z (negative z rcode) v
Ends-denied z rcode is {w} {w'} e a plain =
    says-in_order z (negative z rcode) (Offers-is w w' is _ (sym e) a) (Offers-nothing w')
    (Offers-none z _ (denial-no_targets z)) plain.rcode plain.referral plain.truncated

-- the SOA of a negative answer: a set of one record, with the lesser TTL
lowered : (n : DomainName) (ttl t : ℕ) (ds : List Octets) → length ds ≡ 1
    → item authority
    (map (λ (r : ResourceRecord). record r { ttl = min r.ttl (soa_minimum r.rdata) })
    (map (λ (d : Octets). record { owner = n; ttl = ttl; rtype = t; rdata = d }) ds))
    ≡ record {
      section = authority;
      records = map (λ (d : Octets). record {
        owner = n;
        ttl = min ttl (soa_minimum (get_or ds 0 []));
        rtype = t;
        rdata = d;
      }) ds;
    } ∷ []
lowered n ttl t [] e = absurd (omega arith)
lowered n ttl t (d ∷ []) e = refl
lowered n ttl t (d ∷ d' ∷ ds) e = absurd (omega arith)

module _ (z : ZoneContents) where
  soa-one : IsBuilt z → (set : RecordSet) → set_of (rrset z z.origin type_soa) ≡ Some set
      → records_at z.origin set.ttl set ≡ rrset z z.origin type_soa → length set.rdata ≡ 1
  soa-one kept set e f = grind (arith, few_soa, one_soa, length-map)

  pub soa-item : IsBuilt z → (set : RecordSet) (ttl : ℕ)
      → set_of (rrset z z.origin type_soa) ≡ Some set → records_at z.origin set.ttl set
      ≡ rrset z z.origin type_soa → ttl ≡ min set.ttl (soa_minimum (get_or set.rdata 0 []))
      → negative_soa z ≡ record { section = authority; records = records_at z.origin ttl set } ∷ []
  soa-item kept set ttl e f g =
      ap (λ rs. item authority
      (map (λ (r : ResourceRecord). record r { ttl = min r.ttl (soa_minimum r.rdata) }) rs)) (sym f)
      ∙ lowered z.origin set.ttl set.rtype set.rdata (soa-one kept set e f)
      ∙ ap (λ k. record { section = authority; records = records_at z.origin k set } ∷ []) (sym g)

  pub soa-none : set_of (rrset z z.origin type_soa) ≡ None → negative_soa z ≡ []
  soa-none e = grind arith

pub cut-has_servers : (z : ZoneContents) (n c : DomainName)
    → cut_of z n ≡ Some c → is_some (set_of (rrset z c type_ns)) ≡ true
cut-has_servers z n c e = set-owned z c type_ns ∙ (and_parts (below c z.origin)
    (owns z c type_ns) (found_passes (is_cut z) (reverse (suffixes (folded n))) c e)).1

-- a path may begin at a cut
pub start_at_cut : (z : ZoneContents) (n : DomainName) (cut : ZoneNode) → IsBelowCut z n cut
    → IsNode cut.zone cut.name → IsStart z false cut
start_at_cut z n cut below there = record {
  zone = below.zone;
  exists = subst (λ y. IsNode y cut.name) below.zone there;
  inside = (and_parts _ _ (and_parts _ _
      (found_passes (is_cut z) (reverse (suffixes (folded n))) cut.name below.cut)).0).1;
  uncut = λ e. absurd (false≢true e);
}

-- if all targets are at or below the cut, no others have addresses to offer
none-outside_cut : (z : ZoneContents) (c : DomainName) (before ms : List DomainName)
    → list_all (inside c) ms ≡ true → side_items z (not_inside c) before ms ≡ []
unfolding side_items
none-outside_cut z c before [] all = refl
none-outside_cut z c before (m ∷ ms) all =
    let parts = and_parts (inside c m) (list_all (inside c) ms) all in
    ap₂ (λ x y. x ++ y) (items-untaken z (not_inside c) before m (ap not parts.0))
    (none-outside_cut z c (before ++ m ∷ []) ms parts.1)

-- nothing is added for targets outside the cut if there are none, or if the reply is full
pub Offers-others : (z : ZoneContents) (c : DomainName) (w : State) (ms : List DomainName)
    (b : Bool) → (w.full ≡ true) ⊎ (b ≡ list_all (inside c) ms) → b ≡ true
    → Offers w w (side_items z (not_inside c) [] ms)
Offers-others z c w ms b (inl full) e = Offers-full w _ full
Offers-others z c w ms b (inr all) e =
    Offers-empty _ (none-outside_cut z c [] ms (sym all ∙ e))

-- a referral to the servers of a cut, whose NS set is at its node
module _ (z : ZoneContents) (node : ZoneNode) (set : RecordSet) (zone : node.zone ≡ z)
    (found : Some set ≡ set_of (rrset node.zone node.name type_ns)) (rtype : set.rtype ≡ type_ns)
    (kept : IsSetOf node set) where
  abbrev servers : List Item
  servers = record { section = authority; records = records_at node.name set.ttl set } ∷ []

  servers_item : main_items (referral_to z node.name) ≡ servers
  servers_item = grind (arith, item-shown)

  servers_targets : ending_targets (referral_to z node.name) ≡ set_targets set
  servers_targets =
      ap targets_of servers_item
      ∙ targets_of_set authority node.name set.ttl set true (ap is_target_type rtype)

  pub Ends-referred : {w w1 w2 w' : State} {v : Verdict} → Offers w w1 servers
      → Offers w1 w2 (side_items z (inside node.name) [] (set_targets set)) → Offers w2 w'
      (side_items z (not_inside node.name) [] (set_targets set)) → code_of v.rcode ≡ no_error
      → v.is_referral ≡ true → v.is_truncated ≡ w2.full → Ends w w' z (referral_to z node.name) v
  Ends-referred {w} {w1} {w2} {w'} a g b =
      says-in_order z (referral_to z node.name) (Offers-is w w1 _ _ (sym servers_item) a)
      (Offers-is w1 w2 _ _ (ap (side_items z (inside node.name) []) (sym servers_targets)) g)
      (Offers-is w2 w' _ _ (ap (side_items z (not_inside node.name) []) (sym servers_targets)) b)

  pub Took-referred : {s s1 s2 : Walk} (z2 : ZoneContents) → z2 ≡ z → Took s s1 (side_nodes z
      (inside node.name) (set_targets set)) (length (filter (inside node.name) (set_targets set)))
      → Took s1 s2 (side_nodes z2 (not_inside node.name) (set_targets set))
      (length (filter (not_inside node.name) (set_targets set)))
      → TookRest s s2 (ending z (referral_to z node.name))
  Took-referred {s} {s1} {s2} z2 same_zone a b =
      grind (arith, servers_targets, Took-then, Took-within)
