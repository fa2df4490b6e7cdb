-- A name whose records have plain types passes the checks for types.
use Rattle.std.specs.Option.{option_map_or}
use Rattle.dns_zone.proofs.Common.{◌≡◌, ℕ, ◌<◌, ◌≤◌, ◌==◌, ◌&&◌, ◌||◌, not, nat_lt, Bool, true, false, ◌⊎◌, inl, inr, List, [], ◌∷◌, map, length, refl, sym, ap, ap₂, ◌∙◌, arith, list_any, list_all, le-ltb, cases_lt, and_parts, ne_eqb, DomainName, ResourceRecord, ZoneContents, at, at_or_below, below, owns, target, Check, checks, is_owner, ttls_differ, large_set, many_sets, AllByRecursion, each_weaker, type_soa, type_ns, type_cname, IsOwner, number_of, sets_ended, is_exchange_type, is_other_type, is_plain_type, reported_at}
use Rattle.dns_spec.specs.Sets.{types_of}
use Rattle.dns_spec.specs.Checks.{is_origin, count, has_target, below_cut, lacks_address, cname_and_other, many_cname, data_at_cut, first_is_asterisk, owns_such, is_address_type}
use Rattle.dns_zone.proofs.OwnRecords.{own_owns}
use Rattle.dns_zone.proofs.SetTests.{types-walk, sets_upto}
use Rattle.dns_spec.proofs.General.Elements.{◌⊲◌, each_always}
use Rattle.dns_spec.proofs.General.Filters.{filter_short, filter_none}
use Rattle.dns_spec.proofs.General.Pairs.{pairs_rising}
use Rattle.dns_spec.proofs.General.Tests.{none_pass}

-- a name owns a record of a type if and only if one of its records has the type
pub owned_by : (z : ZoneContents) (n : DomainName) (t : ℕ) (own : List ResourceRecord)
    → own ≡ at z n → list_any (λ (r : ResourceRecord). r.rtype == t) own ≡ owns z n t
owned_by z n t own e = grind (arith, list_any, own_owns)

none_reported : (z : ZoneContents) (n : DomainName)
    → AllByRecursion (λ (d : ℕ × Check). d.1 z n ≡ false) checks → reported_at z n ≡ []
unfolding reported_at
none_reported z n each =
    ap (map (λ (d : ℕ × Check). record { owner = n; code = d.0 }))
    (filter_none (λ (d : ℕ × Check). d.1 z n) checks each)

pub right : (a b : Bool) → b ≡ false → (a && b) ≡ false
right a b e = grind arith

one_type : (t : ℕ) (own : List ResourceRecord) → length own ≤ 1
    → (list_any (λ (r : ResourceRecord). r.rtype == t) own
    && list_any (λ (r : ResourceRecord). not (r.rtype == t)) own) ≡ false
one_type t [] h = refl
one_type t (r ∷ []) h = grind arith
one_type t (r ∷ s ∷ rs) h = absurd (omega arith)

each_passes : (p : ResourceRecord → Bool) (rs : List ResourceRecord) → list_all p rs ≡ true
    → AllByRecursion (λ r. p r ≡ true) rs
each_passes p [] h = tt
each_passes p (r ∷ rs) h = grind (arith, and_parts, each_passes p rs)

no_others : (a b c d : Bool) → (not a && not b && not c && d) ≡ true
    → (a ≡ false) × (b ≡ false) × (c ≡ false) × (d ≡ true)
no_others a b c d h = grind arith

no_alias : (a b : Bool) → b ≡ false → (not a || b) ≡ true → a ≡ false
no_alias a b e h = grind arith

-- a name whose records have plain types
module _ (z : ZoneContents) (n : DomainName) (own : List ResourceRecord) (is : IsOwner z n own)
  where
    abbrev none_of : (ℕ → Bool) → Type 0
    none_of test = AllByRecursion (λ (r : ResourceRecord). test r.rtype ≡ false) own

    such : (test : ℕ → Bool) → none_of test → owns_such z n test ≡ false
    such test each =
        ap (list_any (λ (r : ResourceRecord). test r.rtype)) (sym is.own_is)
        ∙ none_pass (λ (r : ResourceRecord). test r.rtype) own each

    none_owned : (t : ℕ) → none_of (λ s. s == t) → owns z n t ≡ false
    none_owned t each = sym (own_owns z n t) ∙ such (λ s. s == t) each

    no_target : (type : ℕ → Bool) (test : DomainName → Bool) → none_of type
        → has_target z n type test ≡ false
    no_target type test each =
        ap (list_any (λ (r : ResourceRecord). type r.rtype && option_map_or
        (λ m. at_or_below m z.origin && test m) (target r.rtype r.rdata) false)) (sym is.own_is)
        ∙ none_pass _ own (each_weaker (λ (r : ResourceRecord). type r.rtype ≡ false) _ own
        (λ r e. ap (λ b. b && option_map_or (λ m. at_or_below m z.origin && test m)
        (target r.rtype r.rdata) false) e) each)

    few : (test : ℕ → Bool) (k : ℕ) → length own ≤ k → nat_lt k (number_of test own) ≡ false
    few test k h = grind (arith, filter_short, own, le-ltb)

    pub plain : is_origin z n ≡ false → at_or_below n z.origin ≡ true
        → list_all (λ (r : ResourceRecord). is_plain_type (length own) r.rtype) own ≡ true
        → (below_cut z n && owns_such z n (λ t. not (is_address_type t))) ≡ false
        → length own ≤ 32 → ttls_differ z n ≡ false → reported_at z n ≡ []
    plain first inside types cut short ttls =
        none_reported z n each
      where
        is_plain : ResourceRecord → Bool
        is_plain r = is_plain_type (length own) r.rtype

        none : (test : ℕ → Bool)
            → ((t : ℕ) → is_plain_type (length own) t ≡ true → test t ≡ false) → none_of test
        none test fails =
            each_weaker (λ r. is_plain r ≡ true) (λ (r : ResourceRecord). test r.rtype ≡ false) own
            (λ (r : ResourceRecord) h. fails r.rtype h) (each_passes is_plain own types)

        parts : (t : ℕ) → is_plain_type (length own) t ≡ true → ((t == type_soa) ≡ false)
            × ((t == type_ns) ≡ false) × (is_exchange_type t ≡ false)
            × ((not (t == type_cname) || length own == 1) ≡ true)
        parts t h = no_others (t == type_soa) (t == type_ns) (is_exchange_type t) _ h

        no_soas : none_of (λ t. t == type_soa)
        no_soas = none (λ t. t == type_soa) (λ t h. (parts t h).0)

        no_servers : none_of (λ t. t == type_ns)
        no_servers = none (λ t. t == type_ns) (λ t h. (parts t h).1)

        no_exchanges : none_of is_exchange_type
        no_exchanges = none is_exchange_type (λ t h. (parts t h).2)

        cut_owned : data_at_cut z n ≡ false
        cut_owned =
            ap₂ ◌||◌ (ap (λ b. b && owns_such z n is_other_type)
            (right (below n z.origin) (owns z n type_ns) (none_owned type_ns no_servers))) cut

        alone : (1 < length own) ⊎ (length own ≤ 1)
            → (cname_and_other z n ≡ false) × (many_cname z n ≡ false)
        alone (inl more) =
            let no_aliases : none_of (λ t. t == type_cname) = none (λ t. t == type_cname)
            (λ t h. no_alias (t == type_cname) (length own == 1)
            (ne_eqb (length own) 1 (λ e. absurd (omega (arith, more, e)))) (parts t h).3) in
            let none = filter_none (λ (r : ResourceRecord). r.rtype == type_cname) own no_aliases in
            grind (arith, none_owned type_cname no_aliases, is.own_is, none)
        alone (inr one) =
            grind (
              arith,
              own_owns z n type_cname,
              is.own_is,
              one_type type_cname own one,
              few (λ t. t == type_cname) 1 one,
            )

        large : large_set z n ≡ false
        large =
            none_pass _ (at z n) (each_always _ (at z n) (λ r. ap (λ (rs : List ResourceRecord).
            nat_lt 64 (number_of (λ t. t == r.rtype) rs)) (sym is.own_is)
            ∙ few (λ t. t == r.rtype) 64 (omega (arith, short))))

        many : many_sets z n ≡ false
        many =
            let walk = types-walk own (pairs_rising (λ (r : ResourceRecord). r.rtype) own is.by_types) in
            let upto = sets_upto own in
            ap (λ (rs : List ResourceRecord). nat_lt 32 (length (types_of rs))) (sym is.own_is)
            ∙ ap (nat_lt 32) walk ∙ le-ltb 32 (sets_ended own) (omega (arith, upto, short))

        each : AllByRecursion (λ (d : ℕ × Check). d.1 z n ≡ false) checks
        each =
            ap (λ b. b && not (owns z n type_soa)) first
            ⊲ ap (λ b. b && nat_lt 1 (count z n type_soa)) first
            ⊲ right (not (is_origin z n)) _ (none_owned type_soa no_soas)
            ⊲ ap (λ b. b && not (owns z n type_ns)) first
            ⊲ right (is_owner z n) _ (ap not inside)
            ⊲ (alone (cases_lt 1 (length own))).0
            ⊲ (alone (cases_lt 1 (length own))).1
            ⊲ ttls
            ⊲ no_target (λ t. t == type_ns) (λ m. owns z m type_cname) no_servers
            ⊲ no_target (λ t. t == type_ns) (lacks_address z n) no_servers
            ⊲ no_target is_exchange_type (λ m. owns z m type_cname) no_exchanges
            ⊲ cut_owned
            ⊲ right (first_is_asterisk n) _ (none_owned type_ns no_servers)
            ⊲ large
            ⊲ many
            ⊲ tt
