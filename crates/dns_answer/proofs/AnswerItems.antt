-- The sets of an answer are its aliases, and the sets that end it.
use Rattle.dns_answer.proofs.Common.{◌≡◌, ℕ, ◌+◌, ◌*◌, length, length-append, Bool, true, false, cond, ◌||◌, ◌&&◌, ◌⊎◌, inl, inr, not, min, List, [], ◌∷◌, ◌++◌, map, Option, None, Some, refl, sym, ap, ap₂, ◌∙◌, append-nil, append_assoc, arith, not-true, flat_map-append, filter-append, list_any-append, DomainName, same, at_or_below, type_a, type_ns, type_cname, type_soa, type_aaaa, qtype_any, target, soa_minimum, ResourceRecord, ZoneContents, at, rrset, of_type, with_owner, rising_types, of_first_type, of_lowest_type, cut_of, found, no_error, name_error, Section, answer, authority, Item, records_of, most_aliases, item, follows_alias, alias_items, last_sought, has_any, asked_records, Outcome, referral_to, negative, negative_soa, positive, outcome_by, outcome_at, outcome, targets_of, targets_inside, targets, extra, main_items, items, required_items, chain, targets_in_zone, is_authoritative, any-filter_same, ◌==◌, is_some, list_any, filter, filter_map, AllByRecursion, each_weaker, filter_each, each_append, each_flat_map, IsAlias, target_of, each_of_type, each_alias_item, item_records, targets_last, same-under, addresses_of, side_items, all_names, inside, not_inside, glue_by, others_by, nodes_by, misses_by, ending_targets, ending_required, chain_rest}
use Rattle.dns_answer.proofs.EndingSets.{is_target_type}
use Rattle.dns_answer.proofs.TargetLaws.{depths, depths-append, side_items-append, side_items-none}
use Rattle.dns_answer.proofs.StandingAddresses.{NotAddress, NoAddresses, extra-side, extra-none}

-- a test that gives the same result for names that differ only in case
abbrev Respects : (DomainName → Bool) → Type 0
Respects p = (n m : DomainName) → same n m ≡ true → p n ≡ p m

module _ (p : DomainName → Bool) (alike : Respects p) where
  any-filter : (m : DomainName) (b : Bool) (ms : List DomainName) → p m ≡ b
      → list_any (same m) (filter p ms) ≡ (b && list_any (same m) ms)
  any-filter m b ms e = any-filter_same (same m) p b (λ x h. sym (alike m x h) ∙ e) ms

  -- the addresses of targets that pass the test
  side-filter : (z : ZoneContents) (before ms : List DomainName)
      → side_items z all_names (filter p before) (filter p ms) ≡ side_items z p before ms
  unfolding side_items
  side-filter z before [] = refl
  side-filter z before (m ∷ ms) = go (p m) refl (side-filter z (before ++ m ∷ []) ms)
    where
      last : (b : Bool)
          → p m ≡ b → filter p (before ++ m ∷ []) ≡ filter p before ++ cond b (m ∷ []) []
      last b e = filter-append p before (m ∷ []) ∙ ap (λ b. filter p before ++ cond b (m ∷ []) []) e

      go : (b : Bool) → p m ≡ b → side_items z all_names (filter p (before ++ m ∷ [])) (filter p ms)
          ≡ side_items z p (before ++ m ∷ []) ms → side_items z all_names (filter p before)
          (cond b (m ∷ filter p ms) (filter p ms)) ≡ cond (b && not (list_any (same m) before))
          (addresses_of z m) [] ++ side_items z p (before ++ m ∷ []) ms
      go true e rest =
          ap (λ b. cond (not b) (addresses_of z m) [] ++ side_items z all_names
          (filter p before ++ m ∷ []) (filter p ms)) (any-filter m true before e)
          ∙ ap (λ xs. cond (not (list_any (same m) before))
          (addresses_of z m) [] ++ side_items z all_names xs (filter p ms)) (sym (last true e))
          ∙ ap (λ xs. cond (not (list_any (same m) before)) (addresses_of z m) [] ++ xs) rest
      go false e rest = ap (λ xs. side_items z all_names xs (filter p ms))
          (sym (last false e ∙ append-nil (filter p before))) ∙ rest

-- earlier targets that do not appear again have no effect
side-apart : (z : ZoneContents) (xs before ms : List DomainName)
    → AllByRecursion (λ m. list_any (same m) xs
    ≡ false) ms → side_items z all_names (xs ++ before) ms ≡ side_items z all_names before ms
unfolding side_items
side-apart z xs before [] e = refl
side-apart z xs before (m ∷ ms) e =
    grind (arith, list_any-append, append_assoc, (side-apart z xs (before ++ m ∷ []) ms e.1))

-- the targets of a referral: those inside the cut, and then those outside
module _ (z : ZoneContents) (c : DomainName) (ts : List DomainName) where
  alike_inside : Respects (inside c)
  alike_inside n m e = same-under n m c e

  alike_outside : Respects (not_inside c)
  alike_outside n m e = ap not (same-under n m c e)

  side-inside : side_items z all_names [] (filter (inside c) ts) ≡ side_items z (inside c) [] ts
  side-inside = side-filter (inside c) alike_inside z [] ts

  side-both : side_items z all_names [] (filter (inside c) ts ++ filter (not_inside c) ts)
      ≡ side_items z (inside c) [] ts ++ side_items z (not_inside c) [] ts
  side-both =
      let in_c = filter (inside c) ts in
      let out = filter (not_inside c) ts in
      let apart : AllByRecursion (λ m. list_any (same m) in_c ≡ false) out =
      each_weaker (λ m. not_inside c m ≡ true) (λ m. list_any (same m) in_c ≡ false) out
      (λ m e. any-filter (inside c) alike_inside m false ts (not-true (inside c m) e))
      (filter_each (not_inside c) ts)
      in
      side_items-append z all_names [] in_c out ∙ ap (λ xs. xs ++ side_items z all_names in_c out)
      side-inside ∙ ap (λ xs. side_items z (inside c) [] ts ++ xs)
      (ap (λ xs. side_items z all_names xs out) (sym (append-nil in_c))
      ∙ side-apart z in_c [] out apart ∙ side-filter (not_inside c) alike_outside z [] ts)

-- records of one type
abbrev AreOf : ℕ → List ResourceRecord → Type 0
AreOf u rs = AllByRecursion (λ (r : ResourceRecord). r.rtype ≡ u) rs

no-targets : (s : Section) (u : ℕ) (rs : List ResourceRecord)
    → AreOf u rs → is_target_type u ≡ false → targets_of (item s rs) ≡ []
no-targets s u rs e f = ap (filter_map target_of) (item_records s rs) ∙ go rs e
  where
    go : (rs : List ResourceRecord) → AreOf u rs → filter_map target_of rs ≡ []
    go [] e = refl
    go (r ∷ rs) e =
        let none : target_of r ≡ None =
        ap (λ b. cond b (target r.rtype r.rdata) None) (ap is_target_type e.0 ∙ f) in
        rw none (go rs e.1)

abbrev is_address_type : ℕ → Bool
is_address_type u = u == type_a || u == type_aaaa

no-addresses : (s : Section) (u : ℕ) (rs : List ResourceRecord) → AreOf u rs
    → is_address_type u ≡ false → NoAddresses (item s rs)
no-addresses s u rs e f = grind (arith, item_records, each_weaker)

NoAddresses-append : (is js : List Item) → NoAddresses is → NoAddresses js → NoAddresses (is ++ js)
NoAddresses-append is js e f = grind (arith, flat_map-append, each_append, records_of)

-- the records that a question asks for have one type
record OneType (rs : List ResourceRecord) : Type 0 where
  rtype : ℕ
  each : AreOf rtype rs

asked-one : (t : ℕ) (rs : List ResourceRecord) → OneType (asked_records t rs)
asked-one t rs = go (t == qtype_any)
  where
    lowest : (ts : List ℕ) → OneType (of_first_type ts rs)
    lowest [] = record { rtype = 0; each = tt }
    lowest (u ∷ us) = record { rtype = u; each = each_of_type u rs }

    go : (b : Bool) → OneType (cond b (of_lowest_type rs) (of_type t rs))
    go true = lowest (rising_types rs)
    go false = record { rtype = t; each = each_of_type t rs }

-- a denial has no targets
pub denial-no_targets : (z : ZoneContents) → targets_of (negative_soa z) ≡ []
denial-no_targets z =
    no-targets authority type_soa (map (λ (r : ResourceRecord). record r
    { ttl = min r.ttl (soa_minimum r.rdata) }) (rrset z z.origin type_soa))
    (lowered (rrset z z.origin type_soa) (each_of_type type_soa (at z z.origin))) refl
  where
    lowered : (rs : List ResourceRecord) → AreOf type_soa rs → AreOf type_soa
        (map (λ (r : ResourceRecord). record r { ttl = min r.ttl (soa_minimum r.rdata) }) rs)
    lowered [] e = tt
    lowered (r ∷ rs) e = (e.0, lowered rs e.1)

all-names : (ms : List DomainName) → filter all_names ms ≡ ms
all-names [] = refl
all-names (m ∷ ms) = ap (λ xs. m ∷ xs) (all-names ms)

-- what is added after aliases and the sets of an outcome, and the cost of its targets
record Adds (z : ZoneContents) (front : List Item) (o : Outcome) : Type 0 where
  all : extra z (front ++ main_items o) (targets o)
      ≡ glue_by z o.referral (ending_targets o) ++ others_by z o.referral (ending_targets o)
  glue : extra z (front ++ main_items o) (targets_inside o)
      ≡ glue_by z o.referral (ending_targets o)
  nodes : nodes_by z o.referral (ending_targets o) ≡ depths z (targets_in_zone z (targets o))
  misses : misses_by o.referral (ending_targets o) ≡ length (targets o)
  speaks : (o.referral ≡ None) ⊎ (o.answers ≡ [])

module _ (z : ZoneContents) (front : List Item) (clear : NoAddresses front) where
  adds-plain : (rcode : ℕ) (a b : List Item) → targets_of a ≡ targets_of (a ++ b)
      → NoAddresses (a ++ b) ⊎ (targets_of (a ++ b) ≡ [])
      → Adds z front (record { rcode = rcode; referral = None; answers = a; authorities = b })
  adds-plain rcode a b same_targets few =
      grind (
        arith,
        append-nil,
        all-names,
        extra-none,
        extra-side,
        NoAddresses-append,
        side_items-none,
      )

  adds-set : (rs : List ResourceRecord) (u : ℕ)
      → AreOf u rs → Adds z front (positive (item answer rs))
  adds-set rs u e =
      adds-plain no_error is [] (ap targets_of (sym whole)) (go (is_target_type u) refl)
    where
      is : List Item
      is = item answer rs

      whole : is ++ [] ≡ is
      whole = append-nil is

      go : (b : Bool) → is_target_type u ≡ b → NoAddresses (is ++ []) ⊎ (targets_of (is ++ []) ≡ [])
      go true f = grind (arith, NoAddresses, whole, no-addresses, answer)
      go false f = inr (ap targets_of whole ∙ no-targets answer u rs e f)

  adds-referral : (c : DomainName) → Adds z front (referral_to z c)
  adds-referral c =
      let is = item authority (with_owner c (rrset z c type_ns)) in
      let in_c = filter (inside c) (targets_of is) in
      let out = filter (not_inside c) (targets_of is) in
      let servers : AreOf type_ns (with_owner c (rrset z c type_ns)) =
      shown (rrset z c type_ns) (each_of_type type_ns (at z c)) in
      let none =
      NoAddresses-append front is clear
      (no-addresses authority type_ns (with_owner c (rrset z c type_ns)) servers refl) in
      let whole : (in_c ++ []) ++ (out ++ []) ≡ in_c ++ out =
      ap₂ (λ xs ys. xs ++ ys) (append-nil in_c) (append-nil out) in
      record {
        all =
            ap (extra z (front ++ is)) whole ∙ extra-side z (front ++ is) (in_c ++ out) none
            ∙ side-both z c (targets_of is);
        glue =
            ap (extra z (front ++ is)) (append-nil in_c) ∙ extra-side z (front ++ is) in_c none
            ∙ side-inside z c (targets_of is);
        nodes =
            sym (ap (λ ms. depths z (targets_in_zone z ms)) whole
            ∙ ap (depths z) (filter-append (λ m. at_or_below m z.origin) in_c out)
            ∙ depths-append z (targets_in_zone z in_c) (targets_in_zone z out));
        misses = sym (ap length whole ∙ length-append in_c out);
        speaks = inr refl;
      }
    where
      shown : (rs : List ResourceRecord) → AreOf type_ns rs → AreOf type_ns (with_owner c rs)
      shown [] e = tt
      shown (r ∷ rs) e = (e.0, shown rs e.1)

  adds-denial : (rcode : ℕ) → Adds z front (negative z rcode)
  adds-denial rcode =
      adds-plain rcode [] (negative_soa z) (sym (denial-no_targets z)) (inr (denial-no_targets z))

  adds : (t : ℕ) (x : Option DomainName) (y : Option (List ResourceRecord))
      → Adds z front (outcome_by z t x y)
  adds t (Some c) y = adds-referral c
  adds t None None = adds-denial name_error
  adds t None (Some rs) =
      go (follows_alias t && has_any (of_type type_cname rs)) (has_any (asked_records t rs))
    where
      go : (b c : Bool) → Adds z front (cond b (positive [])
          (cond c (positive (item answer (asked_records t rs))) (negative z no_error)))
      go true c = adds-plain no_error [] [] refl (inr refl)
      go false true = adds-set (asked_records t rs) (asked-one t rs).rtype (asked-one t rs).each
      go false false = adds-denial no_error

-- the sets of aliases contain no addresses
aliases_clear : (z : ZoneContents) (q : DomainName) (t : ℕ) → NoAddresses (alias_items z q t)
aliases_clear z q t =
    let each = each_flat_map IsAlias (λ (i : Item). AllByRecursion IsAlias i.records)
    (λ (i : Item). i.records) (alias_items z q t) (λ i h. h) (each_alias_item z q t) in
    each_weaker IsAlias NotAddress (records_of (alias_items z q t))
    (λ r h. ap is_address_type h) each

-- the whole answer is the rest from the question's name on
module _ (z : ZoneContents) (q : DomainName) (t : ℕ) where
  abbrev last : Outcome
  last = outcome_at z t (last_sought z q t)

  abbrev front : List Item
  front = alias_items z q t

  adds-last : Adds z (alias_items z q t) (outcome_at z t (last_sought z q t))
  unfolding outcome_at
  adds-last = adds z (alias_items z q t)
      (aliases_clear z q t) t (cut_of z (last_sought z q t)) (found z (last_sought z q t))

  main-front : main_items (outcome z q t) ≡ alias_items z q t ++ main_items
      (outcome_at z t (last_sought z q t))
  unfolding outcome
  main-front = append_assoc (alias_items z q t) last.answers last.authorities

  inside-last : targets_inside (outcome z q t) ≡ targets_inside last
  unfolding outcome
  inside-last = refl

  pub items-are : items z q t ≡ (chain_rest z t most_aliases [] q).items
  unfolding items chain chain_rest
  items-are = grind (arith, last, main-front, targets_last, adds-last, append_assoc)

  pub required-are : required_items z q t ≡ (chain_rest z t most_aliases [] q).required
  unfolding required_items chain chain_rest
  required-are = grind (arith, last, main-front, inside-last, adds-last, append_assoc)

  -- the required sets come first
  pub required-first : (chain_rest z t most_aliases [] q).items ≡ (chain_rest z t most_aliases
      [] q).required ++ others_by z last.referral (ending_targets last)
  unfolding chain chain_rest
  required-first = sym (append_assoc front (ending_required z last) _)

  pub rcode-is : (outcome z q t).rcode ≡ (chain_rest z t most_aliases [] q).outcome.rcode
  unfolding outcome chain chain_rest
  rcode-is = refl

  -- the nodes that the whole answer costs
  pub nodes-are : (chain_rest z t most_aliases [] q).nodes
      ≡ depths z (chain z q t) + depths z (targets_in_zone z (targets (outcome z q t)))
  unfolding chain chain_rest
  nodes-are = grind (arith, adds-last, targets_last)

  pub misses-are : (chain_rest z t most_aliases [] q).misses
      ≡ 2 * length (chain z q t) + length (targets (outcome z q t))
  unfolding chain chain_rest
  misses-are = grind (arith, adds-last, targets_last)

  -- a referral without aliases before it is not authoritative
  pub speaks-unless : (b : Bool) → (length (alias_items z q t) == 0) ≡ not b → is_authoritative
      (outcome z q t) ≡ not (is_some (chain_rest z t most_aliases [] q).outcome.referral && not b)
  unfolding outcome chain chain_rest
  speaks-unless b e = go adds-last.speaks
    where
      go : (last.referral ≡ None) ⊎ (last.answers ≡ []) → not (is_some last.referral
          && length (front ++ last.answers) == 0) ≡ not (is_some last.referral && not b)
      go (inl none) = rw none refl
      go (inr none) =
          ap (λ (is : List Item). not (is_some last.referral && length is == 0))
          (ap (λ is. front ++ is) none ∙ append-nil front)
          ∙ ap (λ x. not (is_some last.referral && x)) e
